use Rattle.std.proofs.Common.{take}
use Rattle.std.specs.List.{AllZip}
use Rattle.map_trees.proofs.Turns.{IsStateTreeOf}
use Rattle.map_trees.proofs.trees.state_trees.Given as goal

abbrev pub invariant-loop-state : goal.invariant-loop-state
invariant-loop-state l = AllZip IsStateTreeOf l.list.items (take l.state-index l.states)
