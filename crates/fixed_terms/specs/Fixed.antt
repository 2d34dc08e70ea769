-- What is known where a term is false, and what is worth the same where names have fixed values.
use Rattle.std.specs.Prelude.{◌≡◌, ℕ, ◌<◌, ◌≤◌, ⊤, Bool, true, false, not, List, [], ◌∷◌, length, drop, slice_index_or, slice_set, Option, Some, None, IsSome}
use Rattle.wb_values.specs.Value.{truth, as_truth, as_number, Valuation}
use Rattle.model_meaning.specs.Term.{Term, sort_of, val}
use Rattle.wb_terms.specs.declared.nodes.TermId.{TermId}
use Rattle.wb_terms.specs.declared.nodes.Node.{Node}
use Rattle.wb_terms.specs.declared.nodes.Node.TheVariants.{Truth, Const, Not, And, Or}
use Rattle.wb_terms.specs.Graph.{Graph, tree, tree_of_node}
use Rattle.term_copies.specs.Copies.{id_at}
use Rattle.run_terms.specs.Names.{FitsNames}
use Rattle.condition_terms.specs.Told.{IsTermOf, is_true}
use Rattle.fixed_terms.specs.declared.fixes.Fix.{Fix}

-- Where term `id` is false, condition k has this truth value.
pub record Follows (g : Graph) (id k : ℕ) (b : Bool) : Type 0 where
  pub condition : IsTermOf g k truth
  pub value : (v : Valuation) → FitsNames g.names v → is_true g id v ≡ false → is_true g k v ≡ b

-- for each term of a store its truth value where a given term is false, if it is known
abbrev pub known_at : List (Option Bool) → ℕ → Option Bool
known_at ks k = slice_index_or ks k None

pub record AreKnown (g : Graph) (id : ℕ) (ks : List (Option Bool)) : Type 0 where
  pub room : length ks ≡ length g.nodes
  pub follows : (k : ℕ) (b : Bool) → k < length ks → known_at ks k ≡ Some b → Follows g id k b

-- with what a node's truth value says of its operands
abbrev pub known_by : Node → Bool → List (Option Bool) → List (Option Bool)
known_by (Not x) b ks = slice_set ks x.0 (Some (not b))
known_by (And x y) true ks = slice_set (slice_set ks x.0 (Some true)) y.0 (Some true)
known_by (Or x y) false ks = slice_set (slice_set ks x.0 (Some false)) y.0 (Some false)
known_by _ _ ks = ks

-- The condition is true exactly where this term is.
pub record IsCase (g : Graph) (t : Term) (k : ℕ) : Type 0 where
  pub below : k < length g.nodes
  pub sort : sort_of (tree g k) ≡ Some truth
  pub same : (v : Valuation) → as_truth (val t v) ≡ is_true g k v

-- Two words are the constants 1 and 0.
abbrev pub IsOneAndZero : Graph → (j k : ℕ) → Type 0
IsOneAndZero g j k = (v : Valuation) → (as_number (val (tree g j) v) ≡ 1) × (as_number (val (tree g k) v) ≡ 0)

-- a constant
abbrev pub IsConstant : Node → Type 0
IsConstant (Truth b) = ⊤
IsConstant (Const w n) = ⊤
IsConstant _ = ⊥

-- The value is a constant, which the term is worth wherever this holds.
pub record IsFixed (g : Graph) (k : ℕ) (P : Valuation → Type 0) (value : Node) : Type 0 where
  pub constant : IsConstant value
  pub sorted : IsSome (sort_of (tree_of_node g value))
  pub sort : sort_of (tree_of_node g value) ≡ sort_of (tree g k)
  pub worth : (v : Valuation) → FitsNames g.names v → P v → val (tree_of_node g value) v ≡ val (tree g k) v

-- The condition of a fix has its truth value.
abbrev pub Holds : Graph → Fix → Valuation → Type 0
Holds g f v = is_true g f.condition.0 v ≡ f.holds

-- A term of the store has the value of the fix wherever the fix holds.
pub record IsFix (g : Graph) (f : Fix) : Type 0 where
  pub condition : IsTermOf g f.condition.0 truth
  pub name : f.name.0 < length g.nodes
  pub fixed : IsFixed g f.name.0 (Holds g f) f.value

abbrev pub AreFixes : Graph → List Fix → Type 0
AreFixes g [] = ⊤
AreFixes g (f ∷ fs) = IsFix g f × AreFixes g fs

-- All of them hold where the term is false.
abbrev pub AllFollow : Graph → (id : ℕ) → List Fix → Type 0
AllFollow g id [] = ⊤
AllFollow g id (f ∷ fs) = Follows g id f.condition.0 f.holds × AllFollow g id fs

abbrev pub AllHold : Graph → List Fix → Valuation → Type 0
AllHold g [] v = ⊤
AllHold g (f ∷ fs) v = Holds g f v × AllHold g fs v

-- The first term has the sort of the second, and wherever all fixes hold its value.
pub record IsSame (g : Graph) (fs : List Fix) (id k : ℕ) : Type 0 where
  pub below : id < length g.nodes
  pub sort : sort_of (tree g id) ≡ sort_of (tree g k)
  pub value : (v : Valuation) → FitsNames g.names v → AllHold g fs v → val (tree g id) v ≡ val (tree g k) v

-- The terms of the list are so with those whose ids are their places.
pub record AreSame (g : Graph) (fs : List Fix) (ids : List TermId) : Type 0 where
  pub room : length ids ≤ length g.nodes
  pub same : (k : ℕ) → k < length ids → IsSame g fs (id_at ids k) k

-- the ids of the first so many terms, each at its place
pub record AreOwn (n : ℕ) (ids : List TermId) : Type 0 where
  pub room : length ids ≡ n
  pub own : (k : ℕ) → k < n → id_at ids k ≡ k

-- ids below a bound
abbrev pub AreWithin : ℕ → List TermId → Type 0
AreWithin n ids = (j : ℕ) → j < length ids → id_at ids j < n

-- Where all fixes hold the condition is worth what the copy is, and where it is false all fixes from a place on hold.
pub record IsGuarded (g : Graph) (fs : List Fix) (from copy id : ℕ) : Type 0 where
  pub condition : IsTermOf g id truth
  pub opens : (v : Valuation) → FitsNames g.names v → AllHold g fs v → is_true g id v ≡ is_true g copy v
  pub holds : (v : Valuation) → FitsNames g.names v → is_true g id v ≡ false → AllHold g (drop from fs) v
