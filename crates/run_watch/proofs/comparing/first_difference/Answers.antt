use Rattle.std.proofs.Common.{◌<◌, length, refl, arith}
use Rattle.std.proofs.lemmas.Bool.{false≢true}
use Rattle.wb_values.specs.Value.{number}
use Rattle.run_watch.proofs.Differing.{differ_here, same_more, same_lists}
use Rattle.run_watch.proofs.comparing.first_difference.Goals as goal

pub returns-then-not-is_same_at : goal.returns-then-not-is_same_at
returns-then-not-is_same_at c =
    let xs = c.args.xs.now in
    let ys = c.args.ys.now in
    let k = c.loop-k.k in
    let low : k < length xs = omega (arith, c.loop-k-test.true) in
    let low_other : k < length ys = omega (arith, c.loop-k-test.true, c.requires) in
    differ_here xs ys k (number 0) c.loop-k.invariant low low_other (λ e. false≢true (c.if-not-is_same_at.ensures.1 e))

pub loop-k-preserved : goal.loop-k-preserved
loop-k-preserved c =
    let xs = c.args.xs.now in
    let ys = c.args.ys.now in
    let k = c.loop-k.k in
    let low : k < length xs = omega (arith, c.loop-k-test.true) in
    let low_other : k < length ys = omega (arith, c.loop-k-test.true, c.requires) in
    same_more xs ys k (number 0) c.loop-k.invariant low low_other (c.if-not-is_same_at.ensures.0 refl)

pub returns : goal.returns
returns c = same_lists c.args.xs.now c.args.ys.now c.loop-k.k c.requires (omega (arith, c.loop-k-test.false)) c.loop-k.invariant
