-- The state of a search: the formula, the log of the lemmas learnt so far, and the trail.
use Rattle.std.specs.Prelude.{◌≡◌, ◌+◌, ◌<◌, ◌≤◌, ◌^◌, List, ◌++◌, length, map, All}
use Rattle.sat_base.specs.declared.literals.Lit.{Lit}
use Rattle.sat_base.specs.declared.logs.Lemma.{Lemma}
use Rattle.sat_base.specs.Formula.{Formula, IsClauseOver}
use Rattle.sat_base.specs.Log.{IsSpent}
use Rattle.sat_solve.specs.Trail.{IsSound}
use Rattle.sat_solve.specs.Kept.{TrailView}

-- the clauses by their numbers: the formula's, then the lemmas
abbrev pub known_clauses : Formula → List Lemma → List (List Lit)
known_clauses f log = f.clauses ++ map (λ s. s.lits) log

-- The log is spent on as many lemmas as it has, and the trail is sound for the formula and the log.
pub record IsState (f : Formula) (log : List Lemma) (trail : TrailView) : Type 0 where
  pub vars : trail.vars ≡ f.vars
  pub short : length trail.entries ≤ trail.vars
  pub known : All (IsClauseOver f.vars) f.clauses
  pub numbered : length f.clauses + length log < 2 ^ 64
  pub logged : IsSpent (length log) f log
  pub sound : IsSound (known_clauses f log) trail.entries
