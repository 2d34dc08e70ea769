use Rattle.std.proofs.Common.{◌≡◌, arith, subst, ℕ}
use Rattle.v_value.specs.Scope.{scope_at}
use Rattle.v_masks.specs.Masks.{masked}
use Rattle.v_order.specs.Lists.{statements_in}
use Rattle.v_reach.specs.Marking.{AreMoreBy}
use Rattle.v_reach.proofs.Spreading.{none-spread, spread-then, grown-more, grown-closed}
use Rattle.v_reach.proofs.Counting.{none-more, more-by-one}
use Rattle.v_reach.proofs.turn.rounds.Goals as goal

pub loop-init : goal.loop-init
loop-init c =
    let s = scope_at c.args.scope.now in
    let xs = statements_in c.args.drivers.now in
    record { spread = none-spread s xs (masked c.args.marked.now); more = none-more s xs (masked c.args.marked.now) }

pub pass-requires-clause-variables : goal.pass-requires-clause-variables
pass-requires-clause-variables c = c.loop.invariant.spread.free c.requires.variables

pub turn-requires-clause-variables : goal.turn-requires-clause-variables
turn-requires-clause-variables c = c.in_ok-pass.ensures.free (c.loop.invariant.spread.free c.requires.variables)

pub returns-then-not-some : goal.returns-then-not-some
returns-then-not-some c =
    let s = scope_at c.args.scope.now in
    let xs = statements_in c.args.drivers.now in
    let before = masked c.args.marked.now in
    let now = masked c.loop.marked in
    let mid = masked c.pass.new.marked in
    let after = masked c.turn.new.marked in
    record {
      spread = spread-then s xs before mid after (spread-then s xs before now mid c.loop.invariant.spread c.in_ok-pass.ensures) c.in_ok-some.ensures.spread;
      later = grown-closed c.in_ok-some.some s xs mid after c.if-not-some.true c.in_ok-some.ensures.grown;
    }

pub loop-preserved : goal.loop-preserved
loop-preserved c =
    let s = scope_at c.args.scope.now in
    let xs = statements_in c.args.drivers.now in
    let before = masked c.args.marked.now in
    let now = masked c.loop.marked in
    let mid = masked c.pass.new.marked in
    let after = masked c.turn.new.marked in
    record {
      spread = spread-then s xs before mid after (spread-then s xs before now mid c.loop.invariant.spread c.in_ok-pass.ensures) c.in_ok-some.ensures.spread;
      more = more-by-one c.loop.counter s xs before now mid after c.loop.invariant.more c.in_ok-pass.ensures.more c.in_ok-some.ensures.spread.more
          (grown-more c.in_ok-some.some s xs mid after c.if-not-some.false c.in_ok-some.ensures.grown);
    }

pub returns : goal.returns
returns c =
    let s = scope_at c.args.scope.now in
    let xs = statements_in c.args.drivers.now in
    let e : c.loop.counter ≡ 128 = omega arith in
    record { spread = c.loop.invariant.spread; later = subst (λ (k : ℕ). AreMoreBy k s xs (masked c.args.marked.now) (masked c.loop.marked)) e c.loop.invariant.more }
