use Rattle.std.proofs.Common.{arith}
use Rattle.std.proofs.lemmas.List.{at_drop_all}
use Rattle.v_flow.specs.Spans.{bits_in}
use Rattle.v_flow.proofs.Sets.{end}
use Rattle.v_registers.proofs.ByNames.{spans_turn, none_grouped, nothing_before}
use Rattle.v_registers.proofs.groups.grouped.Goals as goal

pub loop-span-init : goal.loop-span-init
loop-span-init c = nothing_before _ (bits_in c.args.spans.now) (none_grouped c.new-table.result c.new-table.ensures.empty)

pub loop-span-preserved : goal.loop-span-preserved
loop-span-preserved c = spans_turn c.args.spans.now c.loop-span.span-index _ _ _ _ (omega arith) c.in_ok-add_span.ensures c.loop-span.invariant

pub returns : goal.returns
returns c = end _ _ _ c.loop-span.invariant (at_drop_all bits_in c.args.spans.now c.loop-span.span-index c.loop-span-test.false)
