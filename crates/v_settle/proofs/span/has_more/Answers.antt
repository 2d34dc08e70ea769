use Rattle.std.proofs.Common.{arith}
use Rattle.std.proofs.lemmas.List.{at_drop_all}
use Rattle.v_masks.specs.Masks.{masked}
use Rattle.v_settle.proofs.Walks.{spans-turn, spans-end}
use Rattle.v_settle.proofs.span.has_more.Goals as goal

pub loop-span-init : goal.loop-span-init
loop-span-init c = λ f. f

pub loop-span-preserved : goal.loop-span-preserved
loop-span-preserved c = spans-turn c.args.spans.now c.loop-span.span-index _ (masked c.args.table.now) (omega arith) (c.span_has_more.ensures c.if-span_has_more.false) c.loop-span.invariant

pub returns : goal.returns
returns c = λ e. spans-end _ (masked c.args.table.now) _ (at_drop_all (λ ys. ys) c.args.spans.now c.loop-span.span-index c.loop-span-test.false) c.loop-span.invariant
