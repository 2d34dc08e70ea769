-- The table of bits that come from inputs, in one scope, and the names to which dotted names lead there.
use Rattle.std.specs.Prelude.{◌≡◌, ◌↔◌, ℕ, Bool, cond, List, [], ◌∷◌, slice_get, Option, Some, None, Contains, IsTrue}
use Rattle.wb_values.specs.Value.{Name, entry_of}
use Rattle.verilog_trees.specs.Syntax.{Expression, Item, Module}
use Rattle.verilog_meaning.specs.Expression.{Scope}
use Rattle.verilog_meaning.specs.Hierarchy.{Placed, dotted}
use Rattle.verilog_meaning.specs.Settled.{Design, IsPlacedIn, port_directions}
use Rattle.verilog_designs.specs.Reads.{BitSet}
use Rattle.verilog_designs.specs.Dependence.{Bit, is_in}
use Rattle.verilog_designs.specs.Names.{names_in}
use Rattle.verilog_designs.specs.Ports.{is_input}
use Rattle.refinement.specs.Map.{dotted_parts}
use Rattle.map_rules.specs.Expressions.{design_scope}
use Rattle.flat_designs.specs.Flat.{IsNameOf, Naming, IsNaming}
use Rattle.v_syntax.specs.Tree.{tree_of}
use Rattle.v_instances.specs.Texts.{texts}
use Rattle.v_instances.specs.Interface.{AreInterfacesOf}
use Rattle.v_instances.specs.declared.interface.Interfaces.{Interfaces}
use Rattle.v_value.specs.Narrow.{IsNarrow}
use Rattle.v_places.specs.Below.{Spot}
use Rattle.v_depend.specs.Resting.{IsThere}
use Rattle.v_reach.specs.Coming.{ComesFrom}
use Rattle.v_flat.specs.Entries.{DottedEntry}
use Rattle.v_flat.specs.Items.{naming_at}
use Rattle.v_flat.specs.Views.{namings}
use Rattle.map_paths.specs.Located.{Below, located}
use Rattle.map_paths.specs.Tables.{numbers_in}
use Rattle.map_inputs.specs.Bits.{input_bits}
use Rattle.map_inputs.specs.Laws.{HasInputs}
use Rattle.map_judged.specs.Known.{StandsAt}
use Rattle.map_judged.specs.declared.expression.MapExpression.{MapExpression}
use Rattle.map_judged.specs.declared.known.KnownNames.{KnownNames}
use Rattle.map_uses.specs.Users.{IsMarked, AreFlawlessIn}
use Rattle.map_uses.specs.declared.table.InputTable.{InputTable}

-- ---- names

-- What a name is called in the one scope where it leads to a module and a name there; one that leads nowhere stays as it is.
abbrev pub name_where : List (Name → Name) → Name → Option (ℕ × Name) → Name
name_where fs n None = n
name_where fs n (Some p) = naming_at fs p.0 p.1

abbrev pub new_name_by : Below → List (Name → Name) → Name → Name
new_name_by below fs n = name_where fs n (located below 0 (dotted_parts n))

abbrev pub new_name_in : InputTable → Name → Name
new_name_in t = new_name_by (numbers_in t.instances) (namings t.names.items)

-- ---- inputs

-- those of a module's names that are input ports of it
abbrev pub inputs_of : Module → List DottedEntry → List Name
inputs_of m [] = []
inputs_of m (e ∷ es) = cond (is_input (entry_of (port_directions m) e.of_name)) (e.of_name ∷ inputs_of m es) (inputs_of m es)

-- ---- what is known of the design

-- The design stands at these places, and its modules have these interfaces.
pub record StandsWith (interfaces : Interfaces) (spots : List Spot) (d : Design) : Type 0 where
  pub stands : StandsAt d spots
  pub are_interfaces : AreInterfacesOf interfaces d.source

-- The set has the bits that come from inputs of the top, as bits of one scope, and the new names of dotted names are those there.
pub record TellsInputs (d : Design) (new : Name → Name) (marked : BitSet) : Type 0 where
  pub called : Naming
  pub scope : Scope
  pub items : List Item
  pub inputs : List Name
  pub has_inputs : HasInputs d called scope items inputs
  pub dots : IsNaming d dotted
  pub leads : (p : Placed) (own : Name) → IsPlacedIn d p → IsNameOf p own → new (dotted p.path own) ≡ called p.path own
  pub are_marked : (u : Bit) → IsThere scope u → IsTrue (is_in marked u) ↔ ComesFrom scope items (input_bits scope inputs) u

-- These are the names in the expression; they are declared, and mean in the scope what they mean in the design.
pub record IsKnownIn (d : Design) (s : Scope) (ns : List Name) (e : Expression) : Type 0 where
  pub named : ns ≡ names_in e
  pub declared : (n : Name) → Contains (names_in e) n → IsTrue ((design_scope d n).is_declared)
  pub means : (n : Name) → Contains (names_in e) n → s n ≡ design_scope d n

-- so it is with each of the list
abbrev pub AreKnownIn : Design → Scope → List MapExpression → Type 0
AreKnownIn d s xs = (k : ℕ) (x : MapExpression) → slice_get xs k ≡ Some x → IsKnownIn d s (texts x.names.items) (tree_of x.tree.now)

-- no part of them is wider than 128 bits
abbrev pub AreNarrowIn : Scope → List MapExpression → Type 0
AreNarrowIn s xs = (k : ℕ) (x : MapExpression) → slice_get xs k ≡ Some x → IsNarrow s (tree_of x.tree.now)

-- No marked expression has names.
abbrev pub NoneHasNames : List MapExpression → (marks : List Bool) → Type 0
NoneHasNames xs marks = (k : ℕ) (x : MapExpression) → slice_get xs k ≡ Some x → IsMarked marks k → texts x.names.items ≡ []

-- The design stands at these places, its modules have these interfaces, and none of these expressions has a flaw.
pub record AreFlawlessWith (d : Design) (interfaces : Interfaces) (spots : List Spot) (xs : List MapExpression) (names : KnownNames) : Type 0 where
  pub are_interfaces : AreInterfacesOf interfaces d.source
  pub flawless : AreFlawlessIn d d.source spots xs names
