-- Formulas in conjunctive normal form, assignments, and when an assignment satisfies a formula.
use Rattle.std.specs.Prelude.{◌≡◌, ℕ, ◌<◌, Bool, true, false, not, if◌then◌else◌, List, take, slice_index_or, slice_get, Some, All, Any}
use Rattle.sat_base.specs.declared.literals.Lit.{Lit}

-- a number of variables, and the clauses; a clause is a set of literals, kept as a list
pub record Formula : Type 0 where
  pub vars : ℕ
  pub clauses : List (List Lit)

-- each variable of the clause is below vars
abbrev pub IsClauseOver : ℕ → List Lit → Type 0
IsClauseOver vars clause = All (λ l. l.var < vars) clause

-- clause k is the first that has another variable
abbrev pub IsFirstUnknown : ℕ → List (List Lit) → ℕ → Type 0
IsFirstUnknown vars clauses k =
    All (IsClauseOver vars) (take k clauses) × (c : List Lit) × (slice_get clauses k ≡ Some c) × ¬ IsClauseOver vars c

-- An assignment lists the truth values of the variables from 0 on. A variable past its end is false.
abbrev pub variable_value : List Bool → ℕ → Bool
variable_value a v = slice_index_or a v false

-- the truth value of a literal
abbrev pub value : List Bool → Lit → Bool
value a l = if l.negative then not (variable_value a l.var) else variable_value a l.var

-- a literal of the clause is true
abbrev pub SatisfiesClause : List Bool → List Lit → Type 0
SatisfiesClause a clause = Any (λ l. value a l ≡ true) clause

-- each clause has a true literal
abbrev pub Satisfies : List Bool → Formula → Type 0
Satisfies a f = All (SatisfiesClause a) f.clauses
