-- When a formula in conjunctive normal form encodes a term.
use Rattle.std.specs.Prelude.{◌≡◌, ◌↔◌, ℕ, Bool, false, List, [], ◌∷◌, map, length, Contains}
use Rattle.wb_values.specs.Value.{Name, Sort, truth, word, Value, truth_value, number, Valuation, HasSort}
use Rattle.model_meaning.specs.Term.{Term, val}
use Rattle.sat_base.specs.Formula.{Formula, variable_value}
use Rattle.gate_base.specs.Question.{IsQuestion, Follows, IsYes}
use Rattle.gate_words.specs.Binary.{number_of}
use Rattle.sat_gates.specs.Names.{names_in}

-- The bits write the value in binary, bit 0 first. A truth value has one bit, a word its width.
abbrev pub Writes : Sort → Value → List Bool → Type 0
Writes truth (truth_value b) bits = bits ≡ b ∷ []
Writes (word w) (number n) bits = (length bits ≡ w) × (number_of bits ≡ n)
Writes _ _ bits = ⊥

-- A map gives each name the variables of its bits, bit 0 first.
abbrev pub Variables : Type 0
Variables = Name → List ℕ

-- The valuation gives each name of the term a value of its sort.
abbrev pub GivesSorts : Valuation → Term → Type 0
GivesSorts v t = (n : Name) (s : Sort) → Contains (names_in t) (n, s) → HasSort (v n) s

-- The assignment restricts to the valuation: the variables of each name of the term write its value.
abbrev pub RestrictsTo : Variables → List Bool → Valuation → Term → Type 0
RestrictsTo m a v t = (n : Name) (s : Sort) → Contains (names_in t) (n, s) → Writes s (v n) (map (variable_value a) (m n))

-- Values of the term's names go on to an assignment: it follows the circuit and restricts to them.
pub record GoesOn (f : Formula) (q : IsQuestion f) (m : Variables) (t : Term) (v : Valuation) (a : List Bool) : Type 0 where
  pub follows : Follows f q a
  pub restricts : RestrictsTo m a v t

-- The formula encodes the term: it is a question about a circuit. Values of the term's names go on to exactly one assignment, and what is
-- asked is so under it exactly where the term is false under the values.
pub record Encodes (f : Formula) (m : Variables) (t : Term) : Type 0 where
  pub question : IsQuestion f
  pub some : (v : Valuation) → GivesSorts v t → (a : List Bool) × GoesOn f question m t v a
  pub one : (v : Valuation) (a b : List Bool) → GoesOn f question m t v a → GoesOn f question m t v b → a ≡ b
  pub asks : (v : Valuation) (a : List Bool) → GoesOn f question m t v a → IsYes f question a ↔ (val t v ≡ truth_value false)
