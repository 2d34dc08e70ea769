use Rattle.std.proofs.Common.{◌≡◌, ◌++◌, drop}
use Rattle.emitted_trees.specs.Emitted.{decodes_among}
use Rattle.emitted_trees.proofs.module.decodes.Given as goal

abbrev pub invariant-loop-instruction : goal.invariant-loop-instruction
invariant-loop-instruction l = l.ids.items ++ decodes_among (drop l.instruction-index l.instructions) ≡ decodes_among l.instructions
