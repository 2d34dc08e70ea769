-- The parts of a design under other names, and the dotted names of what has other names in one scope.
use Rattle.std.specs.Prelude.{◌≡◌, ◌<◌, ℕ, ⊤, List, [], ◌∷◌, length, Some}
use Rattle.wb_values.specs.Value.{Name, Sort, Entries, Value, valuation_of}
use Rattle.model_meaning.specs.Term.{sort_of, val}
use Rattle.verilog_meaning.specs.Hierarchy.{Placed, dotted}
use Rattle.verilog_meaning.specs.Settled.{Design, IsPlacedIn, IsDeclared, names_of}
use Rattle.wb_terms.specs.Graph.{HasDistinctNames, tree}
use Rattle.wb_terms.specs.Renamed.{renamed}
use Rattle.wb_terms.specs.Environment.{values_by_name}
use Rattle.flat_designs.specs.Flat.{Naming}
use Rattle.v_design.specs.Parts.{Parts}
use Rattle.v_design.specs.Design.{IsNet}

-- The parts h are those of e, with these names in their order in place of e's, but for what is settled. Each term has its number, its sort,
-- and the value that it had where the names have the same values in their order.
pub record IsRenamed (names : List Name) (e h : Parts) : Type 0 where
  pub as_many : length names ≡ length e.graph.names
  pub names_are : h.graph.names ≡ renamed names e.graph.names
  pub distinct : HasDistinctNames h.graph.names
  pub register_count : h.register_count ≡ e.register_count
  pub next : h.next ≡ e.next
  pub bits : h.bits ≡ e.bits
  pub outputs : h.outputs ≡ e.outputs
  pub sorts : (k : ℕ) → k < length e.graph.nodes → sort_of (tree h.graph k) ≡ sort_of (tree e.graph k)
  pub values : (xs : List Value) → length xs ≡ length e.graph.names → (k : ℕ) → k < length e.graph.nodes
      → val (tree h.graph k) (valuation_of (values_by_name h.graph.names xs)) ≡ val (tree e.graph k) (valuation_of (values_by_name e.graph.names xs))

-- For each name of the first list the second has the dotted name of the net or variable that is called so, if there is one.
abbrev pub AreToldBy : Design → Naming → (names told : List Name) → Type 0
AreToldBy d called [] [] = ⊤
AreToldBy d called [] (m ∷ ms) = ⊥
AreToldBy d called (n ∷ ns) [] = ⊥
AreToldBy d called (n ∷ ns) (m ∷ ms) =
    ((p : Placed) (k : Name) → IsPlacedIn d p → IsDeclared p k → called p.path k ≡ n → m ≡ dotted p.path k) × AreToldBy d called ns ms

-- Each name of the table is what a net or variable of the design is called.
abbrev pub AreCalledNets : Design → Naming → Entries Sort → Type 0
AreCalledNets d called [] = ⊤
AreCalledNets d called (e ∷ es) = ((p : Placed) × (k : Name) × IsPlacedIn d p × IsDeclared p k × (called p.path k ≡ e.0)) × AreCalledNets d called es

-- The parts h are those of e, where names of nets and variables are what they are called there, under dotted names.
pub record IsTold (d : Design) (called : Naming) (e h : Parts) : Type 0 where
  pub names : List Name
  pub is_renamed : IsRenamed names e h
  pub are_told : AreToldBy d called (names_of e.graph.names) names
  pub settled : (p : Placed) (n : Name) → IsNet d p n → h.settled (dotted p.path n) ≡ e.settled (called p.path n)
  pub no_others : (name : Name) (id : ℕ) → h.settled name ≡ Some id
      → (p : Placed) × (n : Name) × IsNet d p n × (name ≡ dotted p.path n) × (e.settled (called p.path n) ≡ Some id)
