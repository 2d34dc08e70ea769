-- Terms that are names of a store, and places below a bound.
use Rattle.std.specs.Prelude.{◌≡◌, ℕ, ◌+◌, ◌<◌, List, length, IsTrue}
use Rattle.model_meaning.specs.Term.{is_sort}
use Rattle.wb_terms.specs.declared.nodes.TermId.{TermId}
use Rattle.wb_terms.specs.Graph.{Graph, tree, leaf_at}
use Rattle.term_copies.specs.Copies.{id_at, declared_at}

-- The term is the name at a place of the table.
pub record IsName (g : Graph) (place id : ℕ) : Type 0 where
  pub below : id < length g.nodes
  pub tree : tree g id ≡ leaf_at g.names place
  pub in_range : IsTrue (is_sort (declared_at g.names place).1)

-- The terms are so many names from the first one on.
pub record AreNames (g : Graph) (first count : ℕ) (ids : List TermId) : Type 0 where
  pub so_many : length ids ≡ count
  pub each : (k : ℕ) → k < count → IsName g (first + k) (id_at ids k)

-- each of the ids is below a bound
abbrev pub AreBelow : ℕ → List TermId → Type 0
AreBelow n ids = (k : ℕ) → k < length ids → id_at ids k < n
