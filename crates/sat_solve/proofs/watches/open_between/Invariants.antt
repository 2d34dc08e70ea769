use Rattle.std.proofs.Common.{◌≡◌, ◌<◌, ◌≤◌, ◌⊎◌, ℕ, get_or}
use Rattle.sat_solve.specs.Trail.{IsFalseIn}
use Rattle.sat_base.specs.Codes.{literal_of}
use Rattle.sat_solve.proofs.watches.open_between.Given as goal

abbrev pub invariant-loop-at : goal.invariant-loop-at
invariant-loop-at l = (k : ℕ) → l.begin ≤ k → k < l.at → (get_or l.codes k 0 ≡ l.other) ⊎ IsFalseIn l.trail.entries (literal_of (get_or l.codes k 0))
