use Rattle.std.proofs.Common.{take}
use Rattle.read_cases.specs.Named.{AreNamesInAll, AreNamesInState, HasAdded}
use Rattle.read_cases.proofs.names.add_states.Given as goal

abbrev pub invariant-loop-state : goal.invariant-loop-state
invariant-loop-state l = HasAdded (AreNamesInAll AreNamesInState (take l.state-index l.states)) l.initial.names.items l.names.items
