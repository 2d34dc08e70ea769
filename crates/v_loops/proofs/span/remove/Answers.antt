use Rattle.std.proofs.Common.{arith, drop}
use Rattle.std.proofs.lemmas.List.{at_drop_all}
use Rattle.v_loops.proofs.Removing.{remove-turn, remove-end}
use Rattle.v_loops.proofs.span.remove.Goals as goal

pub loop-span-preserved : goal.loop-span-preserved
loop-span-preserved c = remove-turn c.args.spans.now c.loop-span.span-index _ _ _ _ (omega arith) c.in_ok-remove_span.ensures c.loop-span.invariant

pub returns : goal.returns
returns c = remove-end (drop c.loop-span.span-index c.args.spans.now) _ _ (at_drop_all (λ ys. ys) c.args.spans.now c.loop-span.span-index c.loop-span-test.false) c.loop-span.invariant
