-- The terms that a term stands on.
use Rattle.std.specs.Prelude.{◌≡◌, ◌↔◌, ◌<◌, ℕ, true, List, [], ◌∷◌, length, map, slice_get, Contains, Some}
use Rattle.std.specs.List.Sorted.{IsStrictlyIncreasing}
use Rattle.std.specs.Ordering.{nat_cmp}
use Rattle.std.specs.BTreeSet.{insert_key}
use Rattle.wb_values.specs.Value.{Name, Sort}
use Rattle.model_meaning.specs.Term.{Term}
use Rattle.wb_terms.specs.declared.nodes.Node.{Node}
use Rattle.wb_terms.specs.declared.nodes.TermId.{TermId}
use Rattle.wb_terms.specs.Graph.{Graph, tree, operands_of}
use Rattle.sat_gates.specs.Names.{names_in, is_blastable}

-- A term stands on itself, and on the operands of each term on which it stands.
pub data StandsOn (g : Graph) (id : ℕ) : ℕ → Type 0 where
  itself : StandsOn g id id
  operand : (j k : ℕ) (n : Node) → StandsOn g id j → slice_get g.nodes j ≡ Some n → Contains (operands_of n) k → StandsOn g id k

-- The list has exactly the terms on which a term stands, each once, by ascending id.
pub record IsCone (g : Graph) (id : ℕ) (ids : List ℕ) : Type 0 where
  pub ascending : IsStrictlyIncreasing ids
  pub exact : (k : ℕ) → Contains ids k ↔ StandsOn g id k

-- the places of terms in their store
abbrev pub places : List TermId → List ℕ
places ids = map (λ (id : TermId). id.0) ids

-- What stands in u stands in t.
pub record IsPart (t u : Term) : Type 0 where
  pub names : (n : Name) (s : Sort) → Contains (names_in u) (n, s) → Contains (names_in t) (n, s)
  pub blastable : is_blastable t ≡ true → is_blastable u ≡ true

-- Each term on which a term stands is one of the store, and a part of it.
abbrev pub AreParts : Graph → (id : ℕ) → Type 0
AreParts g id = (k : ℕ) → StandsOn g id k → (k < length g.nodes) × IsPart (tree g id) (tree g k)

-- the keys with further ones in their places
abbrev pub with_keys : List ℕ → List ℕ → List ℕ
with_keys [] keys = keys
with_keys (k ∷ ks) keys = with_keys ks (insert_key nat_cmp keys k)
