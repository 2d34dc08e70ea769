-- The ports of a module by their names, and whether a declaration of a name has a range of another number of bits than one.
use Rattle.std.specs.Prelude.{Bool, false, cond, ◌&&◌, ◌||◌, List, [], ◌∷◌, Option, Some, None}
use Rattle.wb_values.specs.Choice.{first_of}
use Rattle.wb_values.specs.Value.{Name}
use Rattle.verilog_trees.specs.Syntax.{Direction, PortDeclaration, Ports, no_ports, listed, declared, Item, port, parameter, wires, variables, assign, always, instances, Module}
use Rattle.verilog_meaning.specs.Expression.{Scope}
use Rattle.verilog_meaning.specs.Hierarchy.{Placed}
use Rattle.verilog_designs.specs.Names.{is_among}
use Rattle.verilog_designs.specs.Ports.{connected_names}
use Rattle.verilog_designs.specs.Accepted.{variable_names, has_no_clock}
use Rattle.v_scopes.specs.Bounds.{bounds, is_wide}

abbrev pub is_port_of : Name → List PortDeclaration → Bool
is_port_of n [] = false
is_port_of n (d ∷ ds) = is_among d.names n || is_port_of n ds

-- the name stands in the list of ports
abbrev pub is_listed : Name → Ports → Bool
is_listed n no_ports = false
is_listed n (listed ns) = is_among ns n
is_listed n (declared ds) = is_port_of n ds

abbrev pub port_direction : Name → PortDeclaration → Option Direction
port_direction n d = cond (is_among d.names n) (Some d.direction) None

abbrev pub direction_among : Name → List PortDeclaration → Option Direction
direction_among n [] = None
direction_among n (d ∷ ds) = cond (is_among d.names n) (Some d.direction) (direction_among n ds)

abbrev pub item_direction : Name → Item → Option Direction
item_direction n (port d) = port_direction n d
item_direction n (parameter d) = None
item_direction n (wires signed r ws) = None
item_direction n (variables signed r vs) = None
item_direction n (assign ts) = None
item_direction n (always es x) = None
item_direction n (instances m given is) = None

abbrev pub direction_in : Name → List Item → Option Direction
direction_in n [] = None
direction_in n (i ∷ items) = first_of (item_direction n i) (direction_in n items)

abbrev pub wide_port : Scope → Name → List PortDeclaration → Bool
wide_port s n [] = false
wide_port s n (d ∷ ds) = (is_among d.names n && is_wide (bounds s d.range)) || wide_port s n ds

abbrev pub is_wide_item : Scope → Name → Item → Bool
is_wide_item s n (port d) = is_among d.names n && is_wide (bounds s d.range)
is_wide_item s n (parameter d) = false
is_wide_item s n (wires signed r ws) = is_among (connected_names ws) n && is_wide (bounds s r)
is_wide_item s n (variables signed r vs) = is_among (variable_names vs) n && is_wide (bounds s r)
is_wide_item s n (assign ts) = false
is_wide_item s n (always es x) = false
is_wide_item s n (instances m given is) = false

abbrev pub wide_item : Scope → Name → List Item → Bool
wide_item s n [] = false
wide_item s n (i ∷ items) = is_wide_item s n i || wide_item s n items

-- a module that stands by itself, without parameters
abbrev pub alone : Module → Placed
alone m = record { path = []; of_module = m; constants = [] }

-- under a name that does not unfold by itself
unfoldable pub lacks_clock : Module → Name → Bool
lacks_clock m n = has_no_clock (alone m) n
