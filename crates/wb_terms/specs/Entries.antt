-- How the store keeps its names and terms, and what is true of every store.
use Rattle.std.specs.Prelude.{◌≡◌, ◌++◌, List, [], ◌∷◌, map, length, ⊤, Some, IsTrue}
use Rattle.std.specs.String.{string_bytes}
use Rattle.wb_values.specs.Value as meaning
use Rattle.wb_values.specs.Value.{Name, Entries}
use Rattle.model_meaning.specs.Term.{Term, is_sort, sort_of}
use Rattle.wb_terms.specs.declared.store.Declared.{Declared}
use Rattle.wb_terms.specs.declared.store.Entry.{Entry}
use Rattle.wb_terms.specs.declared.nodes.Node.{Node}
use Rattle.wb_terms.specs.Sort.{as_sort}
use Rattle.wb_terms.specs.Graph.{Graph, HasDistinctNames, AllBelow, tree_of, operands_of, names_of}

abbrev pub name_of : Declared → Name × meaning.Sort
name_of d = (string_bytes d.name, as_sort d.sort)

abbrev pub node_of : Entry → Node
node_of e = e.node

abbrev pub graph_of : List Declared → List Entry → Graph
graph_of ds es = record { names = map name_of ds; nodes = map node_of es }

abbrev pub AllSorts : Entries meaning.Sort → Type 0
AllSorts [] = ⊤
AllSorts (e ∷ es) = IsTrue (is_sort e.1) × AllSorts es

-- The entry stands over the earlier trees and the names, and keeps the sort of its tree.
pub record IsSorted (ns : Entries meaning.Sort) (ts : List Term) (e : Entry) : Type 0 where
  pub operands : AllBelow (length ts) (operands_of e.node)
  pub names : AllBelow (length ns) (names_of e.node)
  pub sort : sort_of (tree_of ns ts e.node) ≡ Some (as_sort e.sort)

-- each of the entries behind those of the given trees
abbrev pub AllSorted : Entries meaning.Sort → List Term → List Entry → Type 0
AllSorted ns ts [] = ⊤
AllSorted ns ts (e ∷ es) = IsSorted ns ts e × AllSorted ns (ts ++ tree_of ns ts e.node ∷ []) es

pub record IsWellSorted (ds : List Declared) (es : List Entry) : Type 0 where
  pub distinct : HasDistinctNames (map name_of ds)
  pub in_range : AllSorts (map name_of ds)
  pub entries : AllSorted (map name_of ds) [] es
