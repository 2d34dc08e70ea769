use Rattle.std.proofs.Common.{◌≡◌, drop}
use Rattle.ila_sim.specs.Marks.{first_unmarked}
use Rattle.ila_sim.proofs.missing.first_unmarked.Given as goal

abbrev pub invariant-loop-place : goal.invariant-loop-place
invariant-loop-place l = first_unmarked 0 l.marks ≡ first_unmarked l.place (drop l.place l.marks)
