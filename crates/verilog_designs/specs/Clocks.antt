-- Clock nets, and where they may stand.
use Rattle.std.specs.Prelude.{◌≡◌, List, [], ◌∷◌, ◌++◌, Contains}
use Rattle.wb_values.specs.Value.{Name}
use Rattle.verilog_trees.specs.Syntax.{input, Item, port, parameter, wires, variables, assign, always, instances, Module}
use Rattle.verilog_meaning.specs.Hierarchy.{header_ports, Placed}
use Rattle.verilog_meaning.specs.Settled.{Design, IsPlacedIn, Connection, wire_assignments, port_connections, whole_name, IsConnectedTo}
use Rattle.verilog_designs.specs.Names.{names_in, names_in_statement, names_in_range, names_in_addresses, names_in_assignments, names_in_connections, names_in_values, names_in_parameters, names_in_ports}

-- The clock of the top, and each input port whose whole connection is a clock net.
pub data IsClockNet (d : Design) : Placed → Name → Type 0 where
  at_top : (p : Placed) → IsPlacedIn d p → p.path ≡ [] → IsClockNet d p d.clock
  at_input : (around below : Placed) (c : Connection) (m n : Name) → IsClockNet d around m → Contains (port_connections around.of_module.items) c
      → IsConnectedTo d around c below n input → c.expression ≡ whole_name m → IsClockNet d below n

-- the names that stand in an item otherwise than as an event or in what is connected to a port
abbrev pub names_in_item : Item → List Name
names_in_item (port d) = names_in_range d.range
names_in_item (parameter d) = names_in_range d.range ++ names_in_values d.values
names_in_item (wires signed r ws) = names_in_range r ++ names_in_assignments (wire_assignments ws)
names_in_item (variables signed r vs) = names_in_range r ++ names_in_addresses vs
names_in_item (assign ts) = names_in_assignments ts
names_in_item (always es x) = names_in_statement x
names_in_item (instances m given is) = names_in_connections given

abbrev pub names_in_module_items : List Item → List Name
names_in_module_items [] = []
names_in_module_items (i ∷ items) = names_in_item i ++ names_in_module_items items

abbrev pub names_in_module : Module → List Name
names_in_module m = names_in_parameters m.parameters ++ names_in_ports (header_ports m.ports) ++ names_in_module_items m.items

-- The connection is that of an input port with the whole of the name.
abbrev pub IsWholeInput : Design → Placed → Connection → Name → Type 0
IsWholeInput d p c n = (c.expression ≡ whole_name n) × (below : Placed) × (m : Name) × IsConnectedTo d p c below m input

-- ClockAsData: a clock net stands elsewhere than as an event or as the whole connection of an input port.
pub data HasClockAsData (d : Design) : Type 0 where
  in_module : (p : Placed) (n : Name) → IsPlacedIn d p → IsClockNet d p n → Contains (names_in_module p.of_module) n → HasClockAsData d
  in_connection : (p : Placed) (n : Name) (c : Connection) → IsPlacedIn d p → IsClockNet d p n
      → Contains (port_connections p.of_module.items) c → Contains (names_in c.expression) n → ¬ IsWholeInput d p c n → HasClockAsData d
