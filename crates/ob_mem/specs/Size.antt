-- How many terms the new store has.
use Rattle.std.specs.Prelude.{ℕ, ◌+◌, ◌*◌, ◌^◌, ◌≤◌, false, List, length, Option, Some, None, slice_index_or}
use Rattle.std.specs.List.{sum_by}
use Rattle.wb_values.specs.Value.{Sort, truth, word, memory}
use Rattle.model_meaning.specs.Term.{sort_of}
use Rattle.wb_terms.specs.declared.nodes.Node.{Node}
use Rattle.wb_terms.specs.declared.nodes.Node.TheVariants.{Truth, Load, Store}
use Rattle.wb_terms.specs.Graph.{Graph, tree, tree_of_node}
use Rattle.sat_gates.specs.Cone.{IsCone}
use Rattle.ob_mem.specs.Images.{const_part}

-- the node at a place of a store
abbrev pub node_at : Graph → ℕ → Node
node_at g k = slice_index_or g.nodes k (Truth false)

-- one term stands for a truth value or a word, and one for each word of a memory
abbrev pub term_count : Option Sort → ℕ
term_count (Some (memory a d)) = 2 ^ a
term_count _ = 1

-- A load at a constant address takes no term. Else it takes the constant 1, for each bit of the address this bit and a test, and
-- 2^a - 1 choices.
abbrev pub load_count : (constant : Option ℕ) (address : Option Sort) → ℕ
load_count None (Some (word a)) = 2 ^ a + 2 * a
load_count _ _ = 0

-- At most so many terms of the new store are put for a node. A store takes for each word its address, a test and a choice.
abbrev pub node_count : Graph → Node → ℕ
node_count g (Load m i) = load_count (const_part (node_at g i.0)) (sort_of (tree g i.0))
node_count g (Store m i x) = 3 * term_count (sort_of (tree g m.0))
node_count g n = term_count (sort_of (tree_of_node g n))

-- the same for several terms
abbrev pub total_count : Graph → List ℕ → ℕ
total_count g ids = sum_by (λ k. node_count g (node_at g k)) ids

-- The second store has at most as many terms as are put for those on which a term of the first one stands, each counted once.
pub record IsSmall (g : Graph) (id : ℕ) (h : Graph) : Type 0 where
  pub counted : List ℕ
  pub cone : IsCone g id counted
  pub count : length h.nodes ≤ total_count g counted
