use Rattle.std.proofs.Common.{◌≡◌, ◌+◌, drop}
use Rattle.ila_model.specs.Sorted.{are_states}
use Rattle.ila_model.proofs.sorted.are_states.Given as goal

abbrev pub invariant-loop-place : goal.invariant-loop-place
invariant-loop-place l =
    are_states l.private (drop l.first l.terms.names) l.initial_values
    ≡ are_states l.private (drop (l.first + l.place) l.terms.names) (drop l.place l.initial_values)
