use Rattle.std.proofs.Common.{◌≡◌, ◌++◌}
use Rattle.ila_build.proofs.updating.chosen_updates.Given as goal

abbrev pub invariant-loop-state : goal.invariant-loop-state
invariant-loop-state l = l.updates.items ++ l.state-iterator ≡ l.initial.state-iterator
