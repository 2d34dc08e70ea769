use Rattle.std.proofs.Common.{arith}
use Rattle.place_kinds.specs.Places.{HasLatchAt}
use Rattle.v_judged.specs.Spots.{spot_in}
use Rattle.v_judged.proofs.Loops.{spot_found, spot_passed, no_spot, ready_at}
use Rattle.v_judged.proofs.blocks.any_latch.Goals as goal

pub loop-one-init : goal.loop-one-init
loop-one-init c = ((λ x. x), (λ x. x))

pub has_latch_at-requires : goal.has_latch_at-requires
has_latch_at-requires c = ready_at spot_in c.args.scopes.now c.loop-one.one-index c.one-item.result _ (omega arith) c.one-item.is c.requires

pub loop-one-preserved : goal.loop-one-preserved
loop-one-preserved c =
    spot_passed spot_in HasLatchAt c.args.scopes.now c.loop-one.one-index c.one-item.result _ _ (omega arith) c.one-item.is c.in_ok-has_latch_at.ensures
    c.if-branch.false c.loop-one.invariant

pub returns-then-branch : goal.returns-then-branch
returns-then-branch c =
    spot_found spot_in HasLatchAt c.args.scopes.now c.loop-one.one-index c.one-item.result _ _ (omega arith) c.one-item.is c.in_ok-has_latch_at.ensures
    c.if-branch.true c.loop-one.invariant

pub returns : goal.returns
returns c = no_spot spot_in HasLatchAt c.args.scopes.now c.loop-one.one-index c.loop-one-test.false c.loop-one.invariant
