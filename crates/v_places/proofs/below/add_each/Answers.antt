use Rattle.std.proofs.Common.{arith, ap}
use Rattle.std.proofs.lemmas.List.{drop_all}
use Rattle.v_syntax.specs.Source.{module_of}
use Rattle.v_constants.specs.Given.{given_of}
use Rattle.v_places.specs.Below.{each_spot}
use Rattle.v_places.proofs.Rooms.{adding_begun, adding_on, adding_off, adding_ended}
use Rattle.v_places.proofs.Parts.{pairs_of, pairs_drop}
use Rattle.v_places.proofs.below.add_each.Goals as goal

pub loop-instance-init : goal.loop-instance-init
loop-instance-init c = adding_begun _ _ _

pub loop-instance-preserved : goal.loop-instance-preserved
loop-instance-preserved c =
    adding_on _ _ _ _ _ _ _ _ _ _ _ c.in-Some.is
    (ap (each_spot c.args.parent (module_of c.args.below.now) (given_of c.args.given.now))
    (pairs_drop c.args.instances.now c.loop-instance.instance-index c.instance-item.result (omega arith) c.instance-item.is))
    c.loop-instance.invariant
    c.in_ok-more.ensures

pub returns-in-None : goal.returns-in-None
returns-in-None c =
    adding_off _ _ _ _ _ _ _ _ _ _ c.in-None.is
    (ap (each_spot c.args.parent (module_of c.args.below.now) (given_of c.args.given.now))
    (pairs_drop c.args.instances.now c.loop-instance.instance-index c.instance-item.result (omega arith) c.instance-item.is))
    c.loop-instance.invariant
    c.in_ok-more.ensures

pub returns : goal.returns
returns c =
    adding_ended _ _ _ _ _ _
    (ap (λ is. each_spot c.args.parent (module_of c.args.below.now) (given_of c.args.given.now) (pairs_of is))
    (drop_all c.loop-instance.instance-index c.args.instances.now (omega arith)))
    c.loop-instance.invariant
