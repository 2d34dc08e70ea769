use Rattle.std.proofs.Common.{ℕ, ◌<◌, IsSome, slice_index_or, None}
use Rattle.sat_solve.proofs.trail.Trail.lowest_unassigned.Given as goal

abbrev pub invariant-loop-var : goal.invariant-loop-var
invariant-loop-var l = (v : ℕ) → v < l.var → IsSome (slice_index_or l.sign-items v None)
