-- Formulas about registers and inputs: which of their variables stand for which bits, and what a formula encodes.
use Rattle.std.specs.Prelude.{◌≡◌, ◌↔◌, ℕ, zero, suc, ◌<◌, ◌≤◌, ◌+◌, ◌*◌, Bool, cond, List, [], ◌∷◌, map, length, slice_index_or, All, ⊤}
use Rattle.wb_values.specs.Value.{Name, Value, words, numeral_of}
use Rattle.model_meaning.specs.Model.{Instruction, instruction_name}
use Rattle.refinement.specs.Map.{Setting}
use Rattle.refinement.specs.Run.{Run, IsRun}
use Rattle.refinement.specs.Obligation.{Obligation, Falsifies, IsWholeCommand, bound_named}
use Rattle.sat_base.specs.declared.logs.Lemma.{Lemma}
use Rattle.sat_base.specs.Formula.{Formula, variable_value, Satisfies}
use Rattle.sat_base.specs.Log.{IsSpent}
use Rattle.reports.specs.Question.{IsQuestion, FollowsCircuit, IsYes}

-- The variables of the bits of the first registers and of the inputs at each cycle, bit 0 first. A memory has variables for each
-- of its words, every other register and every input for word 0 alone. What does not matter has none.
pub record BitMap : Type 0 where
  pub registers : Name → (word : ℕ) → List ℕ
  pub inputs : (cycle : ℕ) → Name → (word : ℕ) → List ℕ

-- the number that bits write, bit 0 first
abbrev pub number_of_bits : List Bool → ℕ
number_of_bits [] = 0
number_of_bits (b ∷ bs) = cond b 1 0 + 2 * number_of_bits bs

-- word k of a memory; another value is its word 0, and its other words are 0
abbrev pub word_of : Value → ℕ → ℕ
word_of (words xs) k = slice_index_or xs k 0
word_of x zero = numeral_of x
word_of x (suc k) = 0

-- The map is one from the bits of the first registers, and of the inputs of so many cycles, to variables of the formula.
pub record IsMapOf (cycles : ℕ) (f : Formula) (m : BitMap) : Type 0 where
  pub registers : (n : Name) (k : ℕ) → All (λ v. v < f.vars) (m.registers n k)
  pub inputs : (t : ℕ) (n : Name) (k : ℕ) → All (λ v. v < f.vars) (m.inputs t n k)
  pub none_later : (t : ℕ) (n : Name) (k : ℕ) → cycles ≤ t → m.inputs t n k ≡ []

-- The variables, if there are any, write the number.
abbrev pub Write : List Bool → List ℕ → ℕ → Type 0
Write a [] x = ⊤
Write a (v ∷ vs) x = number_of_bits (map (variable_value a) (v ∷ vs)) ≡ x

-- The assignment restricts to the first registers and the inputs of a run: the variables of each name write its value.
pub record RestrictsTo (m : BitMap) (a : List Bool) (run : Run) : Type 0 where
  pub registers : (n : Name) (k : ℕ) → Write a (m.registers n k) (word_of (run.registers 0 n) k)
  pub inputs : (t : ℕ) (n : Name) (k : ℕ) → Write a (m.inputs t n k) (word_of (run.inputs t n) k)

-- The assignment gives each variable of the formula a value, and satisfies it.
pub record IsSatisfyingAssignment (f : Formula) (a : List Bool) : Type 0 where
  pub whole : length a ≡ f.vars
  pub satisfies : Satisfies a f

-- A run goes on to an assignment: it follows the circuit and restricts to the run.
pub record GoesOn (f : Formula) (q : IsQuestion f) (m : BitMap) (run : Run) (a : List Bool) : Type 0 where
  pub follows : FollowsCircuit f q a
  pub restricts : RestrictsTo m a run

-- The formula encodes a property of runs of so many cycles: it is a question about a circuit. Each run goes on to exactly one assignment,
-- and what is asked is so under it exactly where the run has the property. Each satisfying assignment restricts to some run.
pub record EncodesRuns (s : Setting) (cycles : ℕ) (HasProperty : Run → Type 0) (f : Formula) (m : BitMap) : Type 0 where
  pub mapped : IsMapOf cycles f m
  pub question : IsQuestion f
  pub some : (run : Run) → IsRun s run cycles → (a : List Bool) × GoesOn f question m run a
  pub one : (run : Run) (a b : List Bool) → GoesOn f question m run a → GoesOn f question m run b → a ≡ b
  pub asks : (run : Run) (a : List Bool) → IsRun s run cycles → GoesOn f question m run a → IsYes f question a ↔ HasProperty run
  pub every : (a : List Bool) → IsSatisfyingAssignment f a → (run : Run) × IsRun s run cycles × RestrictsTo m a run

-- It encodes an obligation: it asks whether the run falsifies it.
abbrev pub EncodesObligation : Setting → Obligation → Formula → BitMap → Type 0
EncodesObligation s o f m = EncodesRuns s o.cycles (λ run. Falsifies s run o) f m

-- It encodes the cover of instruction number j: it asks whether the run is a whole command of it.
abbrev pub EncodesCover : Setting → ℕ → Instruction → Formula → BitMap → Type 0
EncodesCover s j i f m = EncodesRuns s (bound_named s.map (instruction_name i)) (IsWholeCommand s j) f m

-- What shows that a budget was spent: a formula, what its variables stand for, and a log of lemmas.
pub record Spent : Type 0 where
  pub formula : Formula
  pub bits : BitMap
  pub log : List Lemma

-- The log is spent on the budget: so many lemmas, each of which follows and is new.
abbrev pub IsSpentOn : ℕ → Spent → Type 0
IsSpentOn budget x = IsSpent budget x.formula x.log
