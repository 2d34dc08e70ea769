use Rattle.std.proofs.Common.{map}
use Rattle.v_syntax.specs.Source.{item_of}
use Rattle.v_value.specs.Narrow.{HasNarrowObjects}
use Rattle.v_value.specs.Scope.{scope_at, objects_of}
use Rattle.v_drivers.specs.Premises.{AreNarrowItems}
use Rattle.v_judged.specs.Spots.{spot_in}
use Rattle.v_judged.proofs.Asking.{asked_of, name_found, two_asked, own_scope}
use Rattle.v_judged.proofs.drivers.has_bad_driver_at.Goals as goal

pub has_two_drivers-requires-clause-objects : goal.has_two_drivers-requires-clause-objects
has_two_drivers-requires-clause-objects c = asked_of (λ s xs. HasNarrowObjects s) _ _ (own_scope c.args.own.now) c.args.items.now c.args.items.now (λ i. c.args.items.now) c.requires.0

pub has_two_drivers-requires-clause-narrow : goal.has_two_drivers-requires-clause-narrow
has_two_drivers-requires-clause-narrow c = asked_of AreNarrowItems _ _ (own_scope c.args.own.now) c.args.items.now c.args.items.now (λ i. c.args.items.now) c.requires.1

pub returns-then-has_bad_name : goal.returns-then-has_bad_name
returns-then-has_bad_name c =
    name_found (spot_in c.args.own.now) (map item_of c.args.items.now) c.args.own.now.names (scope_at c.args.own.now.scope) (own_scope c.args.own.now)
    (objects_of c.args.own.now.place.now.constants.declarations.items, c.args.own.now.rows_so) c.bad_drivers_are_at_places.ensures.names c.has_bad_name.result
    c.has_bad_name.ensures c.if-has_bad_name.true

pub returns : goal.returns
returns c =
    two_asked (spot_in c.args.own.now) (map item_of c.args.items.now) c.args.own.now.names (scope_at c.args.own.now.scope) (own_scope c.args.own.now)
    (objects_of c.args.own.now.place.now.constants.declarations.items, c.args.own.now.rows_so) c.bad_drivers_are_at_places.ensures.names c.has_bad_name.result
    c.has_bad_name.ensures c.if-has_bad_name.false c.in_ok-twice.twice c.in_ok-twice.ensures
