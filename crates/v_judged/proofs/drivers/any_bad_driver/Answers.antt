use Rattle.std.proofs.Common.{◌≡◌, arith, length, map}
use Rattle.v_syntax.specs.Source.{item_of}
use Rattle.v_places.specs.Views.{spot_of}
use Rattle.v_flat.specs.Views.{items_of}
use Rattle.place_kinds.specs.Places.{HasBadDriverAt}
use Rattle.v_judged.specs.Sharing.{IsSame}
use Rattle.v_judged.specs.Spots.{spot_in, spots_in}
use Rattle.v_judged.proofs.Loops.{with_found, with_passed, none_with, driven_at}
use Rattle.v_judged.proofs.Sharing.{there, read, has_one, own_stands, driven_own, drivers_moved}
use Rattle.v_judged.proofs.drivers.any_bad_driver.Goals as goal

pub loop-number-init : goal.loop-number-init
loop-number-init c = ((λ x. x), (λ x. x))

pub scope_with-own-requires : goal.scope_with-own-requires
scope_with-own-requires c = has_one spot_of IsSame (spots_in c.args.scopes.now) c.args.numbers.now c.args.places.now c.requires.shared c.loop-number.number (omega arith)

pub list_at-requires : goal.list_at-requires
list_at-requires c = let same : length c.args.lists.now ≡ length c.args.places.now = c.requires.as_many in omega (arith, same)

pub has_bad_driver_at-requires : goal.has_bad_driver_at-requires
has_bad_driver_at-requires c =
    let same : length c.args.lists.now ≡ length c.args.places.now = c.requires.as_many in
    let k = c.loop-number.number in
    let f = there c.args.places.now k (omega arith) in
    let own = own_stands spot_of IsSame (spots_in c.args.scopes.now) c.args.numbers.now c.args.places.now c.requires.shared k f.0 f.1 (spot_in c.scope_with-own.result.now) c.scope_with-own.ensures in
    driven_own (map item_of c.list_at.result.now) (spot_in c.scope_with-own.result.now) (spot_of f.0) own
    (driven_at spot_of items_of c.args.lists.now c.args.places.now k f.0 f.0 (map item_of c.list_at.result.now)
    (omega arith) (omega (arith, same)) (read c.args.places.now k f.0 f.1) c.list_at.ensures c.requires.ready)

pub loop-number-preserved : goal.loop-number-preserved
loop-number-preserved c =
    let same : length c.args.lists.now ≡ length c.args.places.now = c.requires.as_many in
    let k = c.loop-number.number in
    let f = there c.args.places.now k (omega arith) in
    let own = own_stands spot_of IsSame (spots_in c.args.scopes.now) c.args.numbers.now c.args.places.now c.requires.shared k f.0 f.1 (spot_in c.scope_with-own.result.now) c.scope_with-own.ensures in
    with_passed spot_of items_of HasBadDriverAt c.args.places.now c.args.lists.now k f.0 f.0 (map item_of c.list_at.result.now) _
    (omega arith) (omega (arith, same)) (read c.args.places.now k f.0 f.1) c.list_at.ensures
    (drivers_moved (map item_of c.list_at.result.now) (spot_in c.scope_with-own.result.now) (spot_of f.0) own _ c.in_ok-has_bad_driver_at.ensures) c.if-branch.false c.loop-number.invariant

pub returns-then-branch : goal.returns-then-branch
returns-then-branch c =
    let same : length c.args.lists.now ≡ length c.args.places.now = c.requires.as_many in
    let k = c.loop-number.number in
    let f = there c.args.places.now k (omega arith) in
    let own = own_stands spot_of IsSame (spots_in c.args.scopes.now) c.args.numbers.now c.args.places.now c.requires.shared k f.0 f.1 (spot_in c.scope_with-own.result.now) c.scope_with-own.ensures in
    with_found spot_of items_of HasBadDriverAt c.args.places.now c.args.lists.now k f.0 f.0 (map item_of c.list_at.result.now) _
    (omega arith) (omega (arith, same)) (read c.args.places.now k f.0 f.1) c.list_at.ensures
    (drivers_moved (map item_of c.list_at.result.now) (spot_in c.scope_with-own.result.now) (spot_of f.0) own _ c.in_ok-has_bad_driver_at.ensures) c.if-branch.true c.loop-number.invariant

pub returns : goal.returns
returns c =
    none_with spot_of items_of HasBadDriverAt c.args.places.now c.args.lists.now c.loop-number.number
    (omega (arith, c.loop-number-test.false)) c.loop-number.invariant
