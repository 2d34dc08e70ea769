use Rattle.std.proofs.Common.{refl, arith}
use Rattle.v_hier.specs.Tables.{has_name}
use Rattle.map_memories.proofs.Bits.{name_turn, name_end}
use Rattle.map_memories.proofs.assigned.names_of.Goals as goal

pub loop-span-preserved : goal.loop-span-preserved
loop-span-preserved c = λ q.
    name_turn c.args.spans.now c.loop-span.span-index _ _ (has_name c.loop-span.names q) (has_name c.add_name.new.names q) q (omega arith) refl
    (c.in_ok-add_name.ensures q) (c.loop-span.invariant q)

pub returns : goal.returns
returns c = λ q. name_end c.args.spans.now c.loop-span.span-index (has_name c.loop-span.names q) q c.loop-span-test.false (c.loop-span.invariant q)
