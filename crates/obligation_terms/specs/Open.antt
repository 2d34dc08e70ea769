-- A command that is still open at a cycle.
use Rattle.std.specs.Prelude.{ℕ, zero, suc, List, ◌∷◌, ◌++◌}
use Rattle.refinement.specs.Map.{Map}
use Rattle.refinement.specs.Obligation.{Fact, no_commit, started_by, running_at}

-- The hypotheses of a command of instruction j that has not ended before cycle c, and that cycle's own but for the commit.
abbrev pub open_at : Map → (j c : ℕ) → List Fact
open_at p j zero = started_by p j
open_at p j (suc c) = open_at p j c ++ no_commit j c ∷ running_at p (suc c)
