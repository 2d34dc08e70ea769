use Rattle.std.proofs.Common.{take}
use Rattle.std.specs.List.{AllZip}
use Rattle.map_trees.proofs.Turns.{IsInputTreeOf}
use Rattle.map_trees.proofs.trees.input_trees.Given as goal

abbrev pub invariant-loop-input : goal.invariant-loop-input
invariant-loop-input l = AllZip IsInputTreeOf l.list.items (take l.input-index l.inputs)
