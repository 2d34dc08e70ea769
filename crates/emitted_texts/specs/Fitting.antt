-- What is asked of the parts of a model so that its emitted module can be printed.
use Rattle.std.specs.Prelude.{◌≡◌, ℕ, ◌<◌, ◌≤◌, ◌^◌, ⊤, Bool, true, false, List, [], ◌∷◌, length, IsSome, IsTrue}
use Rattle.wb_values.specs.Value.{Name}
use Rattle.wb_values.specs.Names.{is_model_name}
use Rattle.model_meaning.specs.Term.{sort_of}
use Rattle.model_meaning.specs.Invariant.{IsModel}
use Rattle.wb_terms.specs.declared.nodes.Node.{Node}
use Rattle.wb_terms.specs.declared.nodes.Node.TheVariants.{Name as Named, Const, Extract, Zext}
use Rattle.wb_terms.specs.declared.store.Declared.{Declared}
use Rattle.wb_terms.specs.declared.store.Entry.{Entry}
use Rattle.wb_terms.specs.Graph.{Graph, AllBelow, names_of, tree_of_node}
use Rattle.wb_terms.specs.Entries.{graph_of, IsWellSorted}
use Rattle.ila_model.specs.declared.parts.Parts.{Parts}
use Rattle.ila_model.specs.Sorted.{is_well_sorted}
use Rattle.ila_model.specs.Meaning.{model_from}
use Rattle.emitted_modules.specs.Nodes.{node_at, called_at}
use Rattle.emitted_modules.specs.Kept.{IsStored}
use Rattle.emitted_modules.specs.Module.{emitted_module}
use Rattle.verilog_text.specs.Text.{is_too_deep}
use Rattle.verilog_trees.specs.Syntax.{Module}
use Rattle.v_print.specs.Printable.{IsPrintableModule}
use Rattle.v_print_source.specs.Shown.{printed_modules}

-- What is printed of a node is within its bounds: a name is legal, a constant fits its width, bits are those of a word.
abbrev pub IsFitting : Graph → Node → Type 0
IsFitting g (Named n) = is_model_name (called_at g.names n.0) ≡ true
IsFitting g (Const w x) = (1 ≤ w) × (w ≤ 128) × (x < 2 ^ w)
IsFitting g (Extract h l x) = (l ≤ h) × (h < 128)
IsFitting g (Zext n x) = n ≤ 128
IsFitting g _ = ⊤

-- What is enough for an emitted module to be printed.
pub record IsPrintedModel (name : Name) (p : Parts) : Type 0 where
  pub named : is_model_name name ≡ true
  pub sorted : IsTrue (is_well_sorted p)
  pub stored : IsStored p.terms
  pub few : length p.instructions.items < 2 ^ 64
  pub legal : (k : ℕ) → k < length p.terms.names → is_model_name (called_at p.terms.names k) ≡ true
  pub fitting : (k : ℕ) → k < length p.terms.nodes → IsFitting p.terms (node_at p.terms k)

-- Each term of the store has a sort, and the name that it is, if it is one, stands in the table.
pub record AreTyped (g : Graph) : Type 0 where
  pub sorts : (k : ℕ) → k < length g.nodes → IsSome (sort_of (tree_of_node g (node_at g k)))
  pub names : (k : ℕ) → k < length g.nodes → AllBelow (length g.names) (names_of (node_at g k))

-- The parts are well sorted, and the model that they stand for keeps the rules. There are no child programs.
pub record IsPlainModel (name : Name) (p : Parts) : Type 0 where
  pub sorted : IsTrue (is_well_sorted p)
  pub stored : IsStored p.terms
  pub typed : AreTyped p.terms
  pub few : length p.instructions.items < 2 ^ 64
  pub is_model : IsModel (model_from name p)
  pub childless : p.children.items ≡ []

-- Of such a model the emitted module can be printed, whichever terms are kept.
abbrev pub EmittedModulesArePrintable : Type 0
EmittedModulesArePrintable = (name : Name) (p : Parts) (keep : ℕ → Bool) → IsPlainModel name p → IsPrintableModule (emitted_module name p keep)

-- Nowhere in a printed source of the module alone are more than 200 constructs open, with a colon after the word default or without one.
abbrev pub IsShallowModule : Module → Type 0
IsShallowModule x = (c : Bool) → is_too_deep [] (printed_modules c (x ∷ []) []) ≡ false

-- Neither are they in that of such a model's emitted module.
abbrev pub EmittedModulesAreShallow : Type 0
EmittedModulesAreShallow = (name : Name) (p : Parts) (keep : ℕ → Bool) → IsPlainModel name p → IsShallowModule (emitted_module name p keep)

-- Every store of terms keeps what is asked of a model's graph.
abbrev pub StoresAreTyped : Type 0
StoresAreTyped = (ds : List Declared) (es : List Entry) → IsWellSorted ds es → AreTyped (graph_of ds es)
