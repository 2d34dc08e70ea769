use Rattle.std.proofs.Common.{◌≡◌, ◌++◌, drop, length}
use Rattle.ila_child.specs.Start.{zeros_of}
use Rattle.ila_child.proofs.runs.push_zeros.Given as goal

abbrev pub invariant-loop-place : goal.invariant-loop-place
invariant-loop-place l =
    l.values ++ zeros_of (drop l.place l.terms.names) ≡ l.initial.values ++ zeros_of (drop (length l.initial.values) l.terms.names)
