use Rattle.std.proofs.Common.{◌≡◌, ◌++◌, map, drop}
use Rattle.ila_build.specs.Building.{pair_of}
use Rattle.ila_build.proofs.instructions.as_updates.Given as goal

abbrev pub invariant-loop-state : goal.invariant-loop-state
invariant-loop-state l = map pair_of l.updates.items ++ drop l.state-index l.pairs ≡ l.pairs
