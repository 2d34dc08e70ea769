use Rattle.std.proofs.Common.{◌≡◌, ◌+◌, ◌-◌, drop}
use Rattle.ila_model.specs.Sorted.{are_inputs}
use Rattle.ila_model.proofs.sorted.are_inputs.Given as goal

abbrev pub invariant-loop-place : goal.invariant-loop-place
invariant-loop-place l =
    are_inputs l.count (drop l.first l.terms.names) ≡ are_inputs (l.first + l.count - l.place) (drop l.place l.terms.names)
