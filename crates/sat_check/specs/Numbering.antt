-- Numbers in place of literals.
use Rattle.std.specs.Prelude.{◌≡◌, ℕ, ◌+◌, ◌-◌, ◌*◌, ◌/◌, ◌%◌, ◌<◌, ◌==◌, ◌++◌, if◌then◌else◌, List, length, map, slice_index, Contains, All}
use Rattle.sat_base.specs.declared.literals.Lit.{Lit}
use Rattle.sat_base.specs.Literal.{negation}

-- Variable i of the list has the numbers 2 i, for itself, and 2 i + 1, for its negation.
abbrev pub literal_at : List ℕ → ℕ → Lit
literal_at variables x = record { var = slice_index variables (x / 2); negative = x % 2 == 1 }

-- the number of the literal of the same variable with the other sign
abbrev pub opposite : ℕ → ℕ
opposite x = if x % 2 == 0 then x + 1 else x - 1

-- the numbers below n stand for literals, apart from one another and with their negations
pub record IsNumbering (n : ℕ) (at : ℕ → Lit) : Type 0 where
  pub apart : (x y : ℕ) → x < n → y < n → at x ≡ at y → x ≡ y
  pub negated : (x : ℕ) → x < n → at (opposite x) ≡ negation (at x)

-- the variable of each literal of each clause is in the list
abbrev pub HasVariables : List ℕ → List (List Lit) → Type 0
HasVariables variables clauses = All (All (λ l. Contains variables l.var)) clauses

-- each element of the old list is in the new one
abbrev pub KeepsAll : List ℕ → List ℕ → Type 0
KeepsAll old new = (x : ℕ) → Contains old x → Contains new x

-- the numbers stand for the literals, one for one, and are below the bound
pub record Numbers (variables numbers : List ℕ) (lits : List Lit) : Type 0 where
  pub literals : map (literal_at variables) numbers ≡ lits
  pub range : All (λ x. x < 2 * length variables) numbers

-- the new lists are the old ones and behind them the clauses by number
pub record AddsNumbered (variables : List ℕ) (old new : List (List ℕ)) (clauses : List (List Lit)) : Type 0 where
  pub literals : map (map (literal_at variables)) new ≡ map (map (literal_at variables)) old ++ clauses
  pub range : All (All (λ x. x < 2 * length variables)) old → All (All (λ x. x < 2 * length variables)) new
