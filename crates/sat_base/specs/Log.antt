-- Logs of lemmas: when a log refutes a formula, and when it is spent on a budget.
use Rattle.std.specs.Prelude.{◌≡◌, ◌≢◌, ℕ, ◌<◌, ◌≤◌, List, [], ◌++◌, length, take, map, slice_get, Some, All, AllPairs}
use Rattle.sat_base.specs.declared.literals.Lit.{Lit}
use Rattle.sat_base.specs.declared.logs.Lemma.{Lemma}
use Rattle.sat_base.specs.Formula.{Formula, IsClauseOver}
use Rattle.sat_base.specs.Propagation.{Follows, IsNew}

-- the clauses before step k, by their numbers: the formula's from 0, then the lemmas before it
abbrev pub earlier_clauses : Formula → List Lemma → ℕ → List (List Lit)
earlier_clauses f log k = f.clauses ++ map (λ s. s.lits) (take k log)

-- there is a step k, and it follows by its hints from the clauses before it
abbrev pub FollowsAt : Formula → List Lemma → ℕ → Type 0
FollowsAt f log k = (s : Lemma) × (slice_get log k ≡ Some s) × Follows (earlier_clauses f log k) s.lits s.hints

-- there is a step k, and it is the empty clause
abbrev pub IsEmptyAt : List Lemma → ℕ → Type 0
IsEmptyAt log k = (s : Lemma) × (slice_get log k ≡ Some s) × (s.lits ≡ [])

-- there is a step k, and it is new to unit propagation in the clauses before it
abbrev pub IsNewAt : Formula → List Lemma → ℕ → Type 0
IsNewAt f log k = (s : Lemma) × (slice_get log k ≡ Some s) × IsNew (earlier_clauses f log k) s.lits

-- The log refutes the formula: some step is empty, and it and all steps before it follow.
abbrev pub Refutes : Formula → List Lemma → Type 0
Refutes f log = (k : ℕ) × IsEmptyAt log k × ((j : ℕ) → j ≤ k → FollowsAt f log j)

-- no variable twice, neither with one sign nor with both
abbrev pub HasEachVariableOnce : List Lit → Type 0
HasEachVariableOnce lits = AllPairs (λ l m. l.var ≢ m.var) lits

-- The log is spent on the budget: it has that many lemmas over the formula's variables, each of which
-- follows from the clauses before it and is new to them.
pub record IsSpent (budget : ℕ) (f : Formula) (log : List Lemma) : Type 0 where
  pub count : length log ≡ budget
  pub known : All (λ s. IsClauseOver f.vars s.lits) log
  pub once : All (λ s. HasEachVariableOnce s.lits) log
  pub follow : (k : ℕ) → k < length log → FollowsAt f log k
  pub new : (k : ℕ) → k < length log → IsNewAt f log k
