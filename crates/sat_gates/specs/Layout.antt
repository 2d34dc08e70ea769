-- Which variables the bits of the names have.
use Rattle.std.specs.Prelude.{◌≡◌, ◌↔◌, ℕ, zero, suc, ◌+◌, ◌<◌, ◌≤◌, Bool, cond, is_some, IsTrue, Contains, length, slice_index_or, List, [], ◌∷◌, Option, Some, None}
use Rattle.wb_values.specs.Value.{Name, Sort, truth, word, memory, Entries, same_name}
use Rattle.sat_gates.specs.Encodes.{Variables}

-- how many bits a value of the sort has
abbrev pub bit_count : Sort → ℕ
bit_count truth = 1
bit_count (word w) = w
bit_count (memory a d) = 0

abbrev pub bit_count_of : Option Sort → ℕ
bit_count_of (Some s) = bit_count s
bit_count_of None = 0

-- so many variables from a first one on
abbrev pub variables_from : ℕ → ℕ → List ℕ
variables_from first zero = []
variables_from first (suc n) = first ∷ variables_from (suc first) n

-- a name's variables from its first one on, where it has one
abbrev pub variables_of_sort : Sort → Option ℕ → List ℕ
variables_of_sort s (Some first) = variables_from first (bit_count s)
variables_of_sort s None = []

-- The variables of each name, from the first ones of the declared names.
abbrev pub variables_of : Entries Sort → List (Option ℕ) → Variables
variables_of (e ∷ es) (f ∷ fs) n = cond (same_name e.0 n) (variables_of_sort e.1 f) (variables_of es fs n)
variables_of _ _ n = []

-- The first variables are given out in the order of declaration: from `next` on, none left out, and `end` is the next one behind them all.
abbrev pub IsLaidOut : (next : ℕ) → Entries Sort → List (Option ℕ) → (end : ℕ) → Type 0
IsLaidOut next [] [] end = next ≡ end
IsLaidOut next (e ∷ es) (None ∷ fs) end = IsLaidOut next es fs end
IsLaidOut next (e ∷ es) (Some first ∷ fs) end = (first ≡ next) × IsLaidOut (next + bit_count e.1) es fs end
IsLaidOut _ _ _ _ = ⊥

-- the next variable behind a name's, where it is used
abbrev pub next_after : (next : ℕ) → Sort → Bool → ℕ
next_after next s used = cond used (next + bit_count s) next

-- the first variables that the used names get, from `next` on, and the next one behind them all
abbrev pub firsts_of : (next : ℕ) → Entries Sort → List Bool → List (Option ℕ)
firsts_of next (e ∷ es) (u ∷ us) = cond u (Some next) None ∷ firsts_of (next_after next e.1 u) es us
firsts_of next _ _ = []

abbrev pub end_of : (next : ℕ) → Entries Sort → List Bool → ℕ
end_of next (e ∷ es) (u ∷ us) = end_of (next_after next e.1 u) es us
end_of next _ _ = next

-- The names that stand in a term, and no others, have variables: the first ones, in the order of declaration.
pub record IsNumbered (es stand : Entries Sort) (firsts : List (Option ℕ)) (vars : ℕ) : Type 0 where
  pub stands : (j : ℕ) → j < length es → IsTrue (is_some (slice_index_or firsts j None)) ↔ Contains stand (slice_index_or es j ([], truth))
  pub declared : (n : Name) (s : Sort) → Contains stand (n, s) → (j : ℕ) × (j < length es) × (slice_index_or es j ([], truth) ≡ (n, s))
  pub end : ℕ
  pub laid_out : IsLaidOut 0 es firsts end
  pub below : end ≤ vars
