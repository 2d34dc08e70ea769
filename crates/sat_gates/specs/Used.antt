-- Which of the declared names stand in a term.
use Rattle.std.specs.Prelude.{◌≡◌, ℕ, zero, suc, ◌<◌, Bool, true, false, List, [], ◌∷◌, length, slice_index_or, Contains}
use Rattle.wb_values.specs.Value.{Name, Sort, truth, Entries}
use Rattle.wb_terms.specs.Graph.{Graph, tree}
use Rattle.sat_gates.specs.Names.{names_in}

-- the declared name at a place, with its sort
abbrev pub entry_at : Entries Sort → ℕ → Name × Sort
entry_at es j = slice_index_or es j ([], truth)

-- what a function gives at so many places from a first one on
abbrev pub listed : {X : Type 0} → (ℕ → X) → (first count : ℕ) → List X
listed f first zero = []
listed f first (suc n) = f first ∷ listed f (suc first) n

-- the place is marked
abbrev pub IsMarked : List Bool → ℕ → Type 0
IsMarked marks k = slice_index_or marks k false ≡ true

-- it is a declared name that is marked as used
abbrev pub IsUsed : Entries Sort → List Bool → Name → Sort → Type 0
IsUsed es used n s = (j : ℕ) × (j < length es) × (entry_at es j ≡ (n, s)) × IsMarked used j

-- Those are marked that stand in the term.
pub record AreUsed (g : Graph) (id : ℕ) (used : List Bool) : Type 0 where
  pub room : length used ≡ length g.names
  pub all : (n : Name) (s : Sort) → Contains (names_in (tree g id)) (n, s) → IsUsed g.names used n s
  pub none_else : (j : ℕ) → IsMarked used j → Contains (names_in (tree g id)) (entry_at g.names j)

-- For each declared name whether its place is one of some numbers.
abbrev pub flags_of : (has : ℕ → Bool) → Entries Sort → List Bool
flags_of has es = listed has 0 (length es)
