-- When the nets of a design have settled, 1364-2005, 6.1, 9.9 and 12.3.9: equations on one valuation of all dotted names.
-- No order is used, and nothing is flattened.
use Rattle.std.specs.Prelude.{◌≡◌, ◌≢◌, option_map, option_and_then, ℕ, suc, ◌^◌, ◌<◌, ◌≤◌, Bool, false, not, ◌||◌, List, [], ◌∷◌, ◌++◌, length, slice_index, slice_get, Contains, Option, Some, None, IsTrue, ⊤}
use Rattle.wb_values.specs.Value.{Name, same_name, Value, number as a_number, words, truth_value, Valuation, Entries, entry_of}
use Rattle.verilog_trees.specs.Syntax.{Expression, number, name, concatenation, replication, as_signed, as_unsigned, unary, reduction, binary, shift, power, comparison, logical, conditional, Expressions, no_expressions, expression, whole, Target, place, joined, Targets, no_targets, target, Statement, Direction, input, output, PortDeclaration, Connections, by_name, by_order, Item, port, parameter, wires, variables, assign, always, instances, Ports, no_ports, listed, declared, Module, Source}
use Rattle.verilog_meaning.specs.Expression.{Object, Scope, object_width, is_memory, assigned_value}
use Rattle.verilog_meaning.specs.Statement.{places, target_width, written, run}
use Rattle.verilog_meaning.specs.Register.{may_reach, one_may_assign, counts, is_bit_of, word_count, value_bit, clocked_blocks, combinational_blocks}
use Rattle.verilog_meaning.specs.Hierarchy.{Declaration, declarations, header_ports, PathStep, instance_step, Placed, placed_scope, placed_at, dotted}

-- A design: the source, the name of its top module, and the name of the top's input that is its clock.
pub record Design : Type 0 where
  pub source : Source
  pub top : Name
  pub clock : Name

-- the module at a path, the innermost step first
abbrev pub at_path : Design → List PathStep → Option Placed
at_path d path = placed_at d.source d.top path

-- The module stands in the design, at its path.
abbrev pub IsPlacedIn : Design → Placed → Type 0
IsPlacedIn d p = at_path d p.path ≡ Some p

-- a valuation of dotted names as a module that stands in the design sees it
abbrev pub inside : Valuation → Placed → Valuation
inside v p n = v (dotted p.path n)

abbrev pub is_declared_among : List Declaration → Name → Bool
is_declared_among [] n = false
is_declared_among (d ∷ ds) n = same_name d.of_name n || is_declared_among ds n

-- The name is a net or variable of the module.
abbrev pub IsDeclared : Placed → Name → Type 0
IsDeclared p n = IsTrue (is_declared_among (declarations p.of_module) n)

-- a is the least number from 1 on with 2^a at least n
pub record IsAddressWidth (n a : ℕ) : Type 0 where
  pub at_least_one : 1 ≤ a
  pub enough : n ≤ 2 ^ a
  pub least : (b : ℕ) → 1 ≤ b → n ≤ 2 ^ b → a ≤ b

-- The words of a memory of n words of w bits: a list of 2^a of them, those from the n-th on 0.
pub record AreWords (n w : ℕ) (xs : List ℕ) : Type 0 where
  pub address_width : ℕ
  pub is_address_width : IsAddressWidth n address_width
  pub all : length xs ≡ 2 ^ address_width
  pub narrow : (k : ℕ) → slice_index xs k < 2 ^ w
  pub past : (k : ℕ) → n ≤ k → slice_index xs k ≡ 0

-- A value of a net or variable is a number of its width; a value of a memory is its words.
abbrev pub IsValueOf : Object → Value → Type 0
IsValueOf o (a_number x) = IsTrue (not (is_memory o)) × (x < 2 ^ object_width o)
IsValueOf o (words xs) = IsTrue (is_memory o) × AreWords (word_count o) (object_width o) xs
IsValueOf o (truth_value b) = ⊥

-- what each port is, by its name
abbrev pub named_ports : Direction → List Name → Entries Direction
named_ports d [] = []
named_ports d (n ∷ ns) = (n, d) ∷ named_ports d ns

abbrev pub declared_ports : List PortDeclaration → Entries Direction
declared_ports [] = []
declared_ports (d ∷ ds) = named_ports d.direction d.names ++ declared_ports ds

abbrev pub item_ports : List Item → Entries Direction
item_ports [] = []
item_ports (port d ∷ items) = named_ports d.direction d.names ++ item_ports items
item_ports (parameter d ∷ items) = item_ports items
item_ports (wires signed r ws ∷ items) = item_ports items
item_ports (variables signed r vs ∷ items) = item_ports items
item_ports (assign ts ∷ items) = item_ports items
item_ports (always es x ∷ items) = item_ports items
item_ports (instances m given is ∷ items) = item_ports items

abbrev pub port_directions : Module → Entries Direction
port_directions m = declared_ports (header_ports m.ports) ++ item_ports m.items

abbrev pub names_of : {A : Type 0} → Entries A → List Name
names_of [] = []
names_of (e ∷ es) = e.0 ∷ names_of es

abbrev pub header_names : Ports → List Name
header_names no_ports = []
header_names (listed ns) = ns
header_names (declared ds) = names_of (declared_ports ds)

-- the ports in the order of the module's list
abbrev pub port_order : Module → List Name
port_order m = header_names m.ports

-- The module has a port of this name, with this direction.
abbrev pub HasPort : Module → Name → Direction → Type 0
HasPort m n d = entry_of (port_directions m) n ≡ Some d

-- To write the number to the target leaves the valuation as it is: the target's bits that are in range have it already.
abbrev pub Has : Scope → Valuation → Target → ℕ → Type 0
Has s v t x = (n : Name) → written s v (places s v t) x n ≡ v n

-- the whole of a name as a target
abbrev pub whole_of : Name → Target
whole_of n = place n whole

abbrev pub wire_assignment : Name → Option Expression → List (Target × Expression)
wire_assignment n None = []
wire_assignment n (Some e) = (whole_of n, e) ∷ []

abbrev pub wire_assignments : List (Name × Option Expression) → List (Target × Expression)
wire_assignments [] = []
wire_assignments (w ∷ ws) = wire_assignment w.0 w.1 ++ wire_assignments ws

-- The continuous assignments of a module, those in declarations of wires too (6.1).
abbrev pub assignments : List Item → List (Target × Expression)
assignments [] = []
assignments (port d ∷ items) = assignments items
assignments (parameter d ∷ items) = assignments items
assignments (wires signed r ws ∷ items) = wire_assignments ws ++ assignments items
assignments (variables signed r vs ∷ items) = assignments items
assignments (assign ts ∷ items) = ts ++ assignments items
assignments (always es x ∷ items) = assignments items
assignments (instances m given is ∷ items) = assignments items

-- each of them holds as an equation
abbrev pub HasAssigned : Scope → Valuation → List (Target × Expression) → Type 0
HasAssigned s v [] = ⊤
HasAssigned s v (a ∷ rest) = Has s v a.0 (assigned_value s v (target_width s a.0) a.1) × HasAssigned s v rest

-- A run of the block on the valuation gives it back.
abbrev pub HasRun : Scope → Valuation → Statement → Type 0
HasRun s v x = (n : Name) → (run s x v).valuation n ≡ v n

abbrev pub HasRunAll : Scope → Valuation → List Statement → Type 0
HasRunAll s v [] = ⊤
HasRunAll s v (x ∷ xs) = HasRun s v x × HasRunAll s v xs

-- an expression that is a target as well, as an output's connection is
abbrev mutual
  pub as_target : Expression → Option Target
  as_target (number k) = None
  as_target (name n x) = Some (place n x)
  as_target (concatenation es) = option_map joined (all_as_targets es)
  as_target (replication k es) = None
  as_target (as_signed x) = None
  as_target (as_unsigned x) = None
  as_target (unary op x) = None
  as_target (reduction op x) = None
  as_target (binary op x y) = None
  as_target (shift op x n) = None
  as_target (power x n) = None
  as_target (comparison op x y) = None
  as_target (logical op x y) = None
  as_target (conditional c x y) = None

  pub all_as_targets : Expressions → Option Targets
  all_as_targets no_expressions = Some no_targets
  all_as_targets (expression e es) = option_and_then (λ t. option_map (target t) (all_as_targets es)) (as_target e)

-- which port of its module a connection is to: the one of a name, or the one at a place of the module's list, from 0 on
pub data PortPlace : Type 0 where
  port_named : Name → PortPlace
  port_numbered : ℕ → PortPlace

-- the port of a module that is meant
abbrev pub port_meant : Module → PortPlace → Option Name
port_meant m (port_named n) = Some n
port_meant m (port_numbered k) = slice_get (port_order m) k

-- what is connected to one port of an instance
pub record Connection : Type 0 where
  pub of_instance : Name
  pub to_port : PortPlace
  pub expression : Expression

-- an entry that is left empty connects nothing
abbrev pub connection_if_any : Name → PortPlace → Option Expression → List Connection
connection_if_any u q None = []
connection_if_any u q (Some e) = record { of_instance = u; to_port = q; expression = e } ∷ []

abbrev pub named_connections : Name → List (Name × Option Expression) → List Connection
named_connections u [] = []
named_connections u (c ∷ cs) = connection_if_any u (port_named c.0) c.1 ++ named_connections u cs

abbrev pub ordered_connections : Name → ℕ → List (Option Expression) → List Connection
ordered_connections u k [] = []
ordered_connections u k (e ∷ es) = connection_if_any u (port_numbered k) e ++ ordered_connections u (suc k) es

-- the connections of an instance, in the order in which they are written (12.3.5, 12.3.6)
abbrev pub instance_connections : Name → Connections → List Connection
instance_connections u (by_name cs) = named_connections u cs
instance_connections u (by_order es) = ordered_connections u 0 es

abbrev pub connections_of_each : List (Name × Connections) → List Connection
connections_of_each [] = []
connections_of_each (i ∷ is) = instance_connections i.0 i.1 ++ connections_of_each is

-- The connections of the ports of a module's instances.
abbrev pub port_connections : List Item → List Connection
port_connections [] = []
port_connections (port d ∷ items) = port_connections items
port_connections (parameter d ∷ items) = port_connections items
port_connections (wires signed r ws ∷ items) = port_connections items
port_connections (variables signed r vs ∷ items) = port_connections items
port_connections (assign ts ∷ items) = port_connections items
port_connections (always es x ∷ items) = port_connections items
port_connections (instances m given is ∷ items) = connections_of_each is ++ port_connections items

-- the whole of a name as an expression
abbrev pub whole_name : Name → Expression
whole_name n = name n whole

-- The connection, written in module p, leads to port n of the module below, and the port has this direction.
pub record IsConnectedTo (d : Design) (p : Placed) (c : Connection) (below : Placed) (n : Name) (way : Direction) : Type 0 where
  pub is_below : at_path d (instance_step c.of_instance ∷ p.path) ≡ Some below
  pub is_meant : port_meant below.of_module c.to_port ≡ Some n
  pub is_port : HasPort below.of_module n way

-- A port connection holds as an equation (12.3.9): an input port has the value of the expression that is connected to it,
-- and the target that is connected to an output port has the port's value.
pub record HasConnection (d : Design) (v : Valuation) (p : Placed) (c : Connection) : Type 0 where
  pub to_input : (below : Placed) (n : Name) → IsConnectedTo d p c below n input
      → Has (placed_scope below) (inside v below) (whole_of n)
      (assigned_value (placed_scope p) (inside v p) (object_width (placed_scope below n)) c.expression)
  pub from_output : (below : Placed) (n : Name) (t : Target) → IsConnectedTo d p c below n output → as_target c.expression ≡ Some t
      → Has (placed_scope p) (inside v p) t
      (assigned_value (placed_scope below) (inside v below) (target_width (placed_scope p) t) (whole_name n))

abbrev pub HasConnected : Design → Valuation → Placed → List Connection → Type 0
HasConnected d v p [] = ⊤
HasConnected d v p (c ∷ cs) = HasConnection d v p c × HasConnected d v p cs

-- A bit counts as a register's.
abbrev pub is_counted : Placed → Name → ℕ → ℕ → Bool
is_counted p n k b = counts (placed_scope p) (clocked_blocks p.of_module.items) n k b

abbrev pub one_may_reach : Scope → List (Target × Expression) → Name → ℕ → ℕ → Bool
one_may_reach s [] n k b = false
one_may_reach s (a ∷ rest) n k b = may_reach s a.0 n k b || one_may_reach s rest n k b

-- What may drive bit b of word k of a name: a clocked block, a combinational block, an assignment, the port itself as an input of
-- the top, what is connected to it as an input of an instance, or an output of an instance.
pub data IsDriven (d : Design) (p : Placed) (n : Name) (k b : ℕ) : Type 0 where
  by_clock : IsTrue (is_counted p n k b) → IsDriven d p n k b
  by_block : IsTrue (one_may_assign (placed_scope p) (combinational_blocks p.of_module.items) n k b) → IsDriven d p n k b
  by_assignment : IsTrue (one_may_reach (placed_scope p) (assignments p.of_module.items) n k b) → IsDriven d p n k b
  by_top_input : p.path ≡ [] → HasPort p.of_module n input → n ≢ d.clock → IsDriven d p n k b
  by_input : (around : Placed) (c : Connection) → IsPlacedIn d around → Contains (port_connections around.of_module.items) c
      → IsConnectedTo d around c p n input → IsDriven d p n k b
  by_output : (c : Connection) (below : Placed) (m : Name) (t : Target) → Contains (port_connections p.of_module.items) c
      → IsConnectedTo d p c below m output → as_target c.expression ≡ Some t → IsTrue (may_reach (placed_scope p) t n k b)
      → IsDriven d p n k b

-- the bits of a name, in range
abbrev pub IsBitOf : Placed → Name → ℕ → ℕ → Type 0
IsBitOf p n k b = IsTrue (is_bit_of (placed_scope p n) k b)

-- Within one module that stands in the design: its values fit, the bits of registers are those given, each assignment and each
-- connection of an instance holds, each combinational block gives the valuation back, and bits without driver are 0.
pub record IsSettledIn (d : Design) (registers v : Valuation) (p : Placed) : Type 0 where
  pub fits : (n : Name) → IsDeclared p n → IsValueOf (placed_scope p n) (inside v p n)
  pub held : (n : Name) (k b : ℕ) → IsDeclared p n → IsTrue (is_counted p n k b)
      → value_bit (inside v p n) k b ≡ value_bit (inside registers p n) k b
  pub assigned : HasAssigned (placed_scope p) (inside v p) (assignments p.of_module.items)
  pub connections : HasConnected d v p (port_connections p.of_module.items)
  pub combinational : HasRunAll (placed_scope p) (inside v p) (combinational_blocks p.of_module.items)
  pub undriven : (n : Name) (k b : ℕ) → IsDeclared p n → IsBitOf p n k b → ¬ IsDriven d p n k b
      → value_bit (inside v p n) k b ≡ false

-- The valuation is settled for these registers and inputs: in each module, and at the top's inputs. The clock is 0.
pub record IsSettled (d : Design) (registers inputs v : Valuation) : Type 0 where
  pub modules : (p : Placed) → IsPlacedIn d p → IsSettledIn d registers v p
  pub inputs_held : (p : Placed) (n : Name) → at_path d [] ≡ Some p → HasPort p.of_module n input → n ≢ d.clock → v n ≡ inputs n
  pub clock_low : v d.clock ≡ a_number 0
