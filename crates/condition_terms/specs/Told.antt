-- Terms whose values are of their sorts, and conditions that tell of the values of a store's names whether something holds.
use Rattle.std.specs.Prelude.{◌≡◌, ◌↔◌, ℕ, ◌<◌, Bool, length, Some, IsTrue, ⊤}
use Rattle.wb_values.specs.Value.{Sort, truth, word, memory, as_truth, Valuation, HasSort}
use Rattle.model_meaning.specs.Term.{val, sort_of}
use Rattle.wb_terms.specs.Graph.{Graph, tree}
use Rattle.run_terms.specs.Names.{FitsNames}

-- The term stands in the store, and under all values of the names its value is of the sort.
pub record IsTermOf (g : Graph) (id : ℕ) (s : Sort) : Type 0 where
  pub below : id < length g.nodes
  pub sort : sort_of (tree g id) ≡ Some s
  pub is_of : (v : Valuation) → FitsNames g.names v → HasSort (val (tree g id) v) s

-- Values of all terms of the store are of their sorts.
abbrev pub AreAllOfSorts : Graph → Type 0
AreAllOfSorts g = (id : ℕ) (s : Sort) → id < length g.nodes → sort_of (tree g id) ≡ Some s → IsTermOf g id s

-- the truth value of a condition
abbrev pub is_true : Graph → ℕ → Valuation → Bool
is_true g id v = as_truth (val (tree g id) v)

-- The condition is true exactly where this holds.
pub record Tells (g : Graph) (id : ℕ) (P : Valuation → Type 0) : Type 0 where
  pub condition : IsTermOf g id truth
  pub told : (v : Valuation) → FitsNames g.names v → IsTrue (is_true g id v) ↔ P v

-- The condition is worth this truth value.
pub record IsJoined (g : Graph) (id : ℕ) (b : Valuation → Bool) : Type 0 where
  pub condition : IsTermOf g id truth
  pub value : (v : Valuation) → FitsNames g.names v → is_true g id v ≡ b v

-- a truth value or a word
abbrev pub IsNoMemory : Sort → Type 0
IsNoMemory truth = ⊤
IsNoMemory (word w) = ⊤
IsNoMemory (memory a d) = ⊥
