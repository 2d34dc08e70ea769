use Rattle.std.proofs.Common.{arith}
use Rattle.std.proofs.lemmas.List.{at_drop_all}
use Rattle.v_flow.specs.Spans.{bits_in}
use Rattle.v_flow.proofs.Sets.{end}
use Rattle.v_loops.proofs.Adding.{append-turn}
use Rattle.v_loops.proofs.span.append.Goals as goal

pub loop-span-preserved : goal.loop-span-preserved
loop-span-preserved c = append-turn c.args.spans.now c.loop-span.span-index _ _ _ _ (omega arith) c.in_ok-push.ensures.items c.loop-span.invariant

pub returns : goal.returns
returns c = end _ _ _ c.loop-span.invariant (at_drop_all bits_in c.args.spans.now c.loop-span.span-index c.loop-span-test.false)
