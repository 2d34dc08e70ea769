-- Where a checker stops in a log that does not refute the formula.
use Rattle.std.specs.Prelude.{◌≡◌, ℕ, ◌<◌, ◌⊎◌, List, ◌++◌, length, map}
use Rattle.sat_base.specs.declared.literals.Lit.{Lit}
use Rattle.sat_base.specs.declared.logs.Lemma.{Lemma}
use Rattle.sat_base.specs.Formula.{Formula}
use Rattle.sat_base.specs.Log.{FollowsAt, IsEmptyAt}

-- the clauses by their numbers: the formula's from 0, and then the lemmas
abbrev pub numbered_clauses : Formula → List Lemma → List (List Lit)
numbered_clauses f log = f.clauses ++ map (λ s. s.lits) log

-- the steps before step k follow, and none of them is empty
pub record IsOpenBefore (f : Formula) (log : List Lemma) (k : ℕ) : Type 0 where
  pub follow : (j : ℕ) → j < k → FollowsAt f log j
  pub nonempty : (j : ℕ) → j < k → ¬ IsEmptyAt log j

-- Step k is the first that does not follow, and no step before it is empty; or all steps follow, none
-- is empty, and k is the log's length.
abbrev pub StopsAt : Formula → List Lemma → ℕ → Type 0
StopsAt f log k = IsOpenBefore f log k × (((k < length log) × ¬ FollowsAt f log k) ⊎ (k ≡ length log))
