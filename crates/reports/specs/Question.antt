-- Formulas that are a circuit and a question about it. The circuits of `gate_base` are described by the same words there.
use Rattle.std.specs.Prelude.{◌≡◌, ℕ, zero, suc, ◌+◌, ◌≤◌, Bool, List, [], ◌∷◌, ◌++◌, length, All}
use Rattle.sat_base.specs.declared.literals.Lit.{Lit}
use Rattle.sat_base.specs.Formula.{Formula, IsClauseOver, SatisfiesClause}

-- The clauses give a variable its value: they are over it and the variables below it, and whatever values those have, exactly one value
-- of it satisfies the clauses.
pub record GiveValue (variable : ℕ) (clauses : List (List Lit)) : Type 0 where
  pub over : All (IsClauseOver (suc variable)) clauses
  pub some : (a : List Bool) → length a ≡ variable → (b : Bool) × All (SatisfiesClause (a ++ b ∷ [])) clauses
  pub one : (a : List Bool) (b c : Bool) → length a ≡ variable → All (SatisfiesClause (a ++ b ∷ [])) clauses
      → All (SatisfiesClause (a ++ c ∷ [])) clauses → b ≡ c

-- The clauses are those of a circuit: some give the first variable its value, the next ones the next variable, and so on until none is left.
abbrev pub AreCircuit : (first count : ℕ) → List (List Lit) → Type 0
AreCircuit first zero clauses = clauses ≡ []
AreCircuit first (suc count) clauses =
    (own : List (List Lit)) × (rest : List (List Lit)) × (clauses ≡ own ++ rest) × GiveValue first own × AreCircuit (suc first) count rest

-- The formula is a question about a circuit: its clauses are those of the circuit, over variables after the inputs, and one more that
-- asks. A clause without literals asks for what is never so. For what is always so there is no clause.
pub record IsQuestion (f : Formula) : Type 0 where
  pub inputs : ℕ
  pub gates : ℕ
  pub circuit : List (List Lit)
  pub asked : List (List Lit)
  pub vars : f.vars ≡ inputs + gates
  pub clauses : f.clauses ≡ circuit ++ asked
  pub is_circuit : AreCircuit inputs gates circuit
  pub one_clause : length asked ≤ 1

-- The assignment gives each variable a value and follows the circuit.
pub record FollowsCircuit (f : Formula) (q : IsQuestion f) (a : List Bool) : Type 0 where
  pub whole : length a ≡ f.vars
  pub gates : All (SatisfiesClause a) q.circuit

-- what is asked is so under the assignment
abbrev pub IsYes : (f : Formula) → IsQuestion f → List Bool → Type 0
IsYes f q a = All (SatisfiesClause a) q.asked
