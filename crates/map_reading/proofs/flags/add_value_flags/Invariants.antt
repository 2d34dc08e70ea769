use Rattle.std.proofs.Common.{◌≡◌, ◌++◌, take}
use Rattle.map_reading.specs.Flags.{value_flags}
use Rattle.map_reading.proofs.flags.add_value_flags.Given as goal

abbrev pub invariant-loop-state : goal.invariant-loop-state
invariant-loop-state l = l.flags.items ≡ l.initial.flags.items ++ value_flags (take l.state-index l.states)
