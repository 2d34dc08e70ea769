use Rattle.std.proofs.Common.{arith, ap}
use Rattle.std.proofs.lemmas.List.{drop_all}
use Rattle.v_places.specs.Views.{module_in}
use Rattle.v_places.proofs.Rooms.{adding_begun, adding_on, adding_off, adding_ended}
use Rattle.v_places.proofs.Parts.{items_below, items_first}
use Rattle.v_places.proofs.below.add_items.Goals as goal

pub loop-item-init : goal.loop-item-init
loop-item-init c = λ x h. adding_begun _ _ _

pub loop-item-preserved : goal.loop-item-preserved
loop-item-preserved c = λ x h.
    adding_on _ _ _ _ _ _ _ _ _ _ _ c.in-Some.is
    (items_first (module_in c.args.modules.now c.args.numbers.now) c.args.parent x c.args.items.now c.loop-item.item-index c.item-item.result (omega arith) c.item-item.is)
    (c.loop-item.invariant x h)
    (c.in_ok-more.ensures x h)

pub returns-in-None : goal.returns-in-None
returns-in-None c = λ x h.
    adding_off _ _ _ _ _ _ _ _ _ _ c.in-None.is
    (items_first (module_in c.args.modules.now c.args.numbers.now) c.args.parent x c.args.items.now c.loop-item.item-index c.item-item.result (omega arith) c.item-item.is)
    (c.loop-item.invariant x h)
    (c.in_ok-more.ensures x h)

pub returns : goal.returns
returns c = λ x h.
    adding_ended _ _ _ _ _ _ (ap (items_below (module_in c.args.modules.now c.args.numbers.now) c.args.parent x) (drop_all c.loop-item.item-index c.args.items.now (omega arith))) (c.loop-item.invariant x h)
