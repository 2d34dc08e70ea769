use Rattle.std.proofs.Common.{◌≡◌}
use Rattle.emitted_names.specs.Ids.{ids_of}
use Rattle.emitted_names.specs.Parts.{parts_of}
use Rattle.emitted_names.proofs.parts.marked_parts.Given as goal

abbrev pub invariant-loop-place : goal.invariant-loop-place
invariant-loop-place l = ids_of l.ids.items ≡ parts_of l.terms l.memory.0 l.place
