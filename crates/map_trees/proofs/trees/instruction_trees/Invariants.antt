use Rattle.std.proofs.Common.{take}
use Rattle.std.specs.List.{AllZip}
use Rattle.map_trees.proofs.Turns.{IsInstructionTreeOf}
use Rattle.map_trees.proofs.trees.instruction_trees.Given as goal

abbrev pub invariant-loop-index : goal.invariant-loop-index
invariant-loop-index l = AllZip IsInstructionTreeOf l.list.items (take l.index l.instructions)
