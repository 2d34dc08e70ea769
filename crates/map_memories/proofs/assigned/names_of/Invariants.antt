use Rattle.std.proofs.Common.{◌≡◌, ◌||◌, drop}
use Rattle.wb_values.specs.Value.{Name}
use Rattle.v_hier.specs.Tables.{has_name}
use Rattle.map_memories.specs.Spans.{is_among}
use Rattle.map_memories.proofs.assigned.names_of.Given as goal

abbrev pub invariant-loop-span : goal.invariant-loop-span
invariant-loop-span l = (q : Name) → (has_name l.names q || is_among (drop l.span-index l.spans) q) ≡ is_among l.spans q
