-- What is elaborated, and to what: registers and inputs as names of a store, tables of terms at the start, when nets have settled and
-- after the clock's edge, and the parts of a design that are taken from them.
use Rattle.std.specs.Prelude.{◌≡◌, Bool, ◌++◌, min, List, map, length, Some, is_some, option_map}
use Rattle.wb_values.specs.Value.{Name}
use Rattle.verilog_trees.specs.Syntax.{Item}
use Rattle.verilog_meaning.specs.Expression.{Scope}
use Rattle.verilog_meaning.specs.Register.{clocked_blocks}
use Rattle.verilog_meaning.specs.Hierarchy.{Declaration}
use Rattle.verilog_designs.specs.Names.{is_among}
use Rattle.wb_terms.specs.Graph.{Graph, HasDistinctNames}
use Rattle.v_operators.specs.Meaning.{Grows}
use Rattle.v_lower.specs.Lowered.{Images}
use Rattle.v_settle.specs.OneModule.{IsEvaluated}
use Rattle.v_edge.specs.Edge.{AreUpdated}
use Rattle.v_design.specs.Registers.{CountedBits}
use Rattle.v_design.specs.Parts.{Parts}
use Rattle.v_registers.specs.Registers.{Counted, AreSplit}
use Rattle.v_elab.specs.Names.{AreEntriesOf, chosen}
use Rattle.v_elab.specs.Start.{IsStart}

-- What is elaborated: the scope of names, the items that drive them, and the nets and variables in the order in which registers are told:
-- that of the text, those of an instance where it stands.
pub record Body : Type 0 where
  pub scope : Scope
  pub items : List Item
  pub declared : List Name

abbrev pub body_in : Scope → List Item → List Name → Body
body_in s items ds = record { scope = s; items = items; declared = ds }

abbrev pub names_in : List Declaration → List Name
names_in ds = map (λ d. d.of_name) ds

-- ---- what it is elaborated to

abbrev pub register_names : List Counted → List Name
register_names cs = map (λ c. c.of_name) cs

abbrev pub bits_of : Scope → Counted → CountedBits
bits_of s c = record { least = option_map (λ a. min a.0 a.1) (s c.of_name).addresses; masks = c.masks }

pub record IsElaborated (b : Body) (is_given : Name → Bool) (outputs : List Name) (e : Parts) : Type 0 where
  pub distinct : HasDistinctNames e.graph.names
  pub registers : List Counted
  pub others : List Name
  pub split : AreSplit b.scope (clocked_blocks b.items) b.declared registers others
  pub entries : AreEntriesOf b.scope (register_names registers ++ chosen is_given others) e.graph.names
  pub counted : e.register_count ≡ length registers
  pub bits : e.bits ≡ map (bits_of b.scope) registers
  pub outputs_are : e.outputs ≡ outputs
  -- the tables at the start
  pub start : Graph
  pub given : Images
  pub first : Images
  pub is_start : IsStart b.scope (clocked_blocks b.items) is_given start given first
  pub all_given : (n : Name) → is_some (given n) ≡ is_among b.declared n
  pub all_first : (n : Name) → is_some (first n) ≡ is_among b.declared n
  pub start_names : start.names ≡ e.graph.names
  -- nets have settled
  pub middle : Graph
  pub nets : Images
  pub evaluated : IsEvaluated b.scope b.items given start nets middle
  pub grows : Grows start middle
  -- after the edge
  pub after : Images
  pub next : Images
  pub updated : AreUpdated b.scope nets first middle (clocked_blocks b.items) after next e.graph
  pub settled : (n : Name) → e.settled n ≡ after n
  pub next_terms : map (λ id. Some id) e.next ≡ map next (register_names registers)
