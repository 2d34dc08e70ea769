use Rattle.std.proofs.Common.{take}
use Rattle.std.specs.List.{AllZip}
use Rattle.map_trees.proofs.Turns.{IsTreeOf}
use Rattle.map_trees.proofs.trees.trees_of.Given as goal

abbrev pub invariant-loop-index : goal.invariant-loop-index
invariant-loop-index l = AllZip IsTreeOf l.list.items (take l.index l.tokens)
