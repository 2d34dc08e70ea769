use Rattle.std.proofs.Common.{arith, ◌≡◌, length}
use Rattle.v_hier.specs.Tables.{has_name}
use Rattle.v_places.specs.Views.{spot_of}
use Rattle.place_kinds.specs.Places.{HasBadEventListAt}
use Rattle.v_judged.specs.Sharing.{IsSame}
use Rattle.v_judged.specs.Spots.{spot_in, spots_in}
use Rattle.v_judged.proofs.Loops.{got, with_found, with_passed, none_with, ready_at}
use Rattle.v_judged.proofs.Sharing.{there, read, has_one, own_stands, ready_own, events_moved}
use Rattle.v_judged.proofs.blocks.any_bad_event_list.Goals as goal

pub loop-number-init : goal.loop-number-init
loop-number-init c = ((λ x. x), (λ x. x))

pub scope_with-own-requires : goal.scope_with-own-requires
scope_with-own-requires c = has_one spot_of IsSame (spots_in c.args.scopes.now) c.args.numbers.now c.args.places.now c.requires.shared c.loop-number.number (omega arith)

pub has_bad_event_list_at-requires : goal.has_bad_event_list_at-requires
has_bad_event_list_at-requires c =
    let k = c.loop-number.number in
    let f = there c.args.places.now k (omega arith) in
    let own = own_stands spot_of IsSame (spots_in c.args.scopes.now) c.args.numbers.now c.args.places.now c.requires.shared k f.0 f.1 (spot_in c.scope_with-own.result.now) c.scope_with-own.ensures in
    ready_own (spot_in c.scope_with-own.result.now) (spot_of f.0) own
    (ready_at spot_of c.args.places.now k f.0 f.0 (omega arith) (read c.args.places.now k f.0 f.1) c.requires.ready)

pub loop-number-preserved : goal.loop-number-preserved
loop-number-preserved c =
    let same : length c.args.nets.now ≡ length c.args.places.now = c.requires.as_many in
    let k = c.loop-number.number in
    let f = there c.args.places.now k (omega arith) in
    let own = own_stands spot_of IsSame (spots_in c.args.scopes.now) c.args.numbers.now c.args.places.now c.requires.shared k f.0 f.1 (spot_in c.scope_with-own.result.now) c.scope_with-own.ensures in
    with_passed spot_of has_name HasBadEventListAt c.args.places.now c.args.nets.now k f.0 f.0 (has_name c.index-nets-number.result) _
    (omega arith) (omega (arith, same)) (read c.args.places.now k f.0 f.1) (got has_name c.args.nets.now k c.index-nets-number.result _ (omega (arith, same)) c.index-nets-number.is)
    (events_moved (has_name c.index-nets-number.result) (spot_in c.scope_with-own.result.now) (spot_of f.0) own _ c.in_ok-has_bad_event_list_at.ensures) c.if-branch.false c.loop-number.invariant

pub returns-then-branch : goal.returns-then-branch
returns-then-branch c =
    let same : length c.args.nets.now ≡ length c.args.places.now = c.requires.as_many in
    let k = c.loop-number.number in
    let f = there c.args.places.now k (omega arith) in
    let own = own_stands spot_of IsSame (spots_in c.args.scopes.now) c.args.numbers.now c.args.places.now c.requires.shared k f.0 f.1 (spot_in c.scope_with-own.result.now) c.scope_with-own.ensures in
    with_found spot_of has_name HasBadEventListAt c.args.places.now c.args.nets.now k f.0 f.0 (has_name c.index-nets-number.result) _
    (omega arith) (omega (arith, same)) (read c.args.places.now k f.0 f.1) (got has_name c.args.nets.now k c.index-nets-number.result _ (omega (arith, same)) c.index-nets-number.is)
    (events_moved (has_name c.index-nets-number.result) (spot_in c.scope_with-own.result.now) (spot_of f.0) own _ c.in_ok-has_bad_event_list_at.ensures) c.if-branch.true c.loop-number.invariant

pub returns : goal.returns
returns c = none_with spot_of has_name HasBadEventListAt c.args.places.now c.args.nets.now c.loop-number.number (omega (arith, c.loop-number-test.false)) c.loop-number.invariant
