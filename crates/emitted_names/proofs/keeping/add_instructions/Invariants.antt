use Rattle.std.proofs.Common.{◌≡◌, ◌++◌, drop}
use Rattle.emitted_names.specs.Keeping.{roots_among}
use Rattle.emitted_names.proofs.keeping.add_instructions.Given as goal

abbrev pub invariant-loop-instruction : goal.invariant-loop-instruction
invariant-loop-instruction l = l.ids.items ++ roots_among (drop l.instruction-index l.instructions) ≡ l.fn.ids.items ++ roots_among l.instructions
