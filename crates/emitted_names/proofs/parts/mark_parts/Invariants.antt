use Rattle.std.proofs.Common.{◌-◌}
use Rattle.emitted_names.proofs.PartMarks.{IsPartMarking}
use Rattle.emitted_names.proofs.parts.mark_parts.Given as goal

abbrev pub invariant-loop-done : goal.invariant-loop-done
invariant-loop-done l = IsPartMarking l.terms l.fn.memory.0 l.count (l.count - l.done) l.marks.items
