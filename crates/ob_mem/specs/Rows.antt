-- Rows of terms that stand one behind the other in a store, and stores that grow.
use Rattle.std.specs.Prelude.{◌≡◌, ℕ, ◌+◌, ◌<◌, ◌≤◌, ◌^◌, true, List, ◌++◌, length, IsSome, Some, slice_index}
use Rattle.wb_values.specs.Value.{Sort, truth, word, number, Valuation}
use Rattle.model_meaning.specs.Term.{Term, sort_of, val}
use Rattle.wb_terms.specs.declared.nodes.Node.{Node}
use Rattle.wb_terms.specs.declared.nodes.Node.TheVariants.{Name, Const, Eq, Ite}
use Rattle.wb_terms.specs.Graph.{Graph, IsOver, tree, trees_of, tree_of_node}
use Rattle.sat_gates.specs.Names.{is_blastable}
use Rattle.ob_mem.specs.declared.rows.Row.{Row}
use Rattle.ob_mem.specs.declared.rows.Row.TheVariants.{Names, Constants, Matches, Choices, Updates}
use Rattle.ob_mem.specs.Words.{listed}

-- The second store has the names and the terms of the first, and perhaps further terms behind them.
pub record Grows (g h : Graph) : Type 0 where
  pub names : h.names ≡ g.names
  pub further : List Term
  pub trees : trees_of h ≡ trees_of g ++ further

-- The second store has the terms of the first, and the row of terms behind them.
pub record IsRow (g h : Graph) (f : ℕ → Term) (count : ℕ) : Type 0 where
  pub names : h.names ≡ g.names
  pub trees : trees_of h ≡ trees_of g ++ listed f count

-- the node at a place of a row
abbrev pub node_in : Row → ℕ → Node
node_in (Names first) k = Name (record { 0 = first.0 + k })
node_in (Constants width) k = Const width k
node_in (Matches x first) k = Eq x (record { 0 = first.0 + k })
node_in (Choices c x y) k = Ite c (record { 0 = x.0 + k }) (record { 0 = y.0 + k })
node_in (Updates c x y) k = Ite (record { 0 = c.0 + k }) x (record { 0 = y.0 + k })

abbrev pub tree_in : Graph → Row → ℕ → Term
tree_in g row k = tree_of_node g (node_in row k)

-- each of the nodes stands over the store and has a sort
pub record AreOver (g : Graph) (row : Row) (count : ℕ) : Type 0 where
  pub over : (k : ℕ) → k < count → IsOver g (length g.nodes) (node_in row k)
  pub sorted : (k : ℕ) → k < count → IsSome (sort_of (tree_in g row k))

-- The store has a term with this id, of this sort, and no memory stands in it.
pub record IsPlain (g : Graph) (id : ℕ) (s : Sort) : Type 0 where
  pub below : id < length g.nodes
  pub sort : sort_of (tree g id) ≡ Some s
  pub blastable : is_blastable (tree g id) ≡ true

-- So many terms from a first one on are words of d bits without memories.
abbrev pub AreWords : Graph → (first count d : ℕ) → Type 0
AreWords g first count d = (k : ℕ) → k < count → IsPlain g (first + k) (word d)

-- So many terms from a first one on have the values of words from a place on.
abbrev pub HoldWords : Graph → Valuation → (first count : ℕ) → List ℕ → (place : ℕ) → Type 0
HoldWords g w first count xs place = (k : ℕ) → k < count → val (tree g (first + k)) w ≡ number (slice_index xs (place + k))
