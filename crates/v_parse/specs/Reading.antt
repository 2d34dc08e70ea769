-- Reading declarations, items, modules and sources from left to right, as the reader does: each function gives what stands at the
-- front, and the rest.
use Rattle.std.specs.Prelude.{Bool, true, false, List, [], codes, Option, Some, None}
use Rattle.wb_values.specs.Value.{Name}
use Rattle.verilog_text.specs.Token.{left_parenthesis, right_parenthesis, left_bracket, right_bracket, comma, semicolon, colon, dot, hash, at, equals, star, Token}
use Rattle.verilog_trees.specs.Syntax as tree
use Rattle.verilog_trees.specs.Syntax.{Expression, Target, EdgeKind, Event, Events, Range, Direction, NetKind, PortDeclaration, ParameterDeclaration, Connections, Item, Ports, Module, Source}
use Rattle.v_expr.specs.Repeat.{◌>>=◌, choose, repeated}
use Rattle.v_expr.specs.Reading.{after_mark}
use Rattle.v_expr.specs.Whole.{whole_at}
use Rattle.v_body.specs.Words.{after_word, name_at}
use Rattle.v_body.specs.Targets.{assignment_at}
use Rattle.v_body.specs.Statements.{statement_at}
use Rattle.v_parse.specs.Lists.{ReaderOf, Passes, flag_at, perhaps_at, before_name, parted_at, at_end}

-- ---- declarations

-- behind the bracket
unfoldable pub range_at : ReaderOf Range
range_at ts = do
  l ← whole_at ts
  more ← after_mark colon l.1
  r ← whole_at more
  rest ← after_mark right_bracket r.1
  Some (record { left = l.0; right = r.0 }, rest)

unfoldable pub perhaps_range_at : ReaderOf (Option Range)
perhaps_range_at ts = perhaps_at left_bracket range_at ts

unfoldable pub direction_at : ReaderOf Direction
direction_at ts =
    choose (after_word (codes "input") ts) (λ rest. Some (tree.input, rest)) (after_word (codes "output") ts >>= λ rest. Some (tree.output, rest))

unfoldable pub net_kind_at : ReaderOf (Option NetKind)
net_kind_at ts =
    choose (after_word (codes "wire") ts) (λ rest. Some (Some tree.wire, rest)) (
    choose (after_word (codes "reg") ts) (λ rest. Some (Some tree.reg, rest)) (Some (None, ts)))

unfoldable pub names_at : ReaderOf (List Name)
names_at ts = parted_at before_name name_at ts

-- behind the direction
unfoldable pub declared_port_at : Direction → ReaderOf PortDeclaration
declared_port_at d ts = do
  k ← net_kind_at ts
  s ← flag_at (codes "signed") k.1
  r ← perhaps_range_at s.1
  ns ← names_at r.1
  Some (record { direction = d; kind = k.0; signed = s.0; range = r.0; names = ns.0 }, ns.1)

unfoldable pub port_at : ReaderOf PortDeclaration
port_at ts = direction_at ts >>= λ d. declared_port_at d.0 d.1

unfoldable pub setting_at : ReaderOf (Name × Expression)
setting_at ts = do
  n ← name_at ts
  value ← after_mark equals n.1
  e ← whole_at value
  Some ((n.0, e.0), e.1)

unfoldable pub settings_at : ReaderOf (List (Name × Expression))
settings_at ts = parted_at before_name setting_at ts

-- whether the word is `localparam`
unfoldable pub parameter_word_at : ReaderOf Bool
parameter_word_at ts =
    choose (after_word (codes "localparam") ts) (λ rest. Some (true, rest)) (after_word (codes "parameter") ts >>= λ rest. Some (false, rest))

-- behind the word
unfoldable pub declared_parameter_at : (is_local : Bool) → ReaderOf ParameterDeclaration
declared_parameter_at l ts = do
  s ← flag_at (codes "signed") ts
  r ← perhaps_range_at s.1
  vs ← settings_at r.1
  Some (record { is_local = l; signed = s.0; range = r.0; values = vs.0 }, vs.1)

unfoldable pub perhaps_value_at : ReaderOf (Option Expression)
perhaps_value_at ts = perhaps_at equals whole_at ts

unfoldable pub wire_at : ReaderOf (Name × Option Expression)
wire_at ts = do
  n ← name_at ts
  e ← perhaps_value_at n.1
  Some ((n.0, e.0), e.1)

unfoldable pub wires_at : ReaderOf (List (Name × Option Expression))
wires_at ts = parted_at (after_mark comma) wire_at ts

unfoldable pub variable_at : ReaderOf (Name × Option Range)
variable_at ts = do
  n ← name_at ts
  r ← perhaps_range_at n.1
  Some ((n.0, r.0), r.1)

unfoldable pub variables_at : ReaderOf (List (Name × Option Range))
variables_at ts = parted_at (after_mark comma) variable_at ts

-- ---- instances

unfoldable pub some_entry_at : ReaderOf (Option Expression)
some_entry_at ts = whole_at ts >>= λ e. Some (Some e.0, e.1)

-- an expression, or nothing in front of a comma or a closing parenthesis
unfoldable pub entry_at : ReaderOf (Option Expression)
entry_at ts =
    choose (after_mark comma ts) (λ more. Some (None, ts)) (
    choose (after_mark right_parenthesis ts) (λ more. Some (None, ts)) (some_entry_at ts))

unfoldable pub named_entry_at : ReaderOf (Name × Option Expression)
named_entry_at ts = do
  name ← after_mark dot ts
  n ← name_at name
  inside ← after_mark left_parenthesis n.1
  e ← entry_at inside
  rest ← after_mark right_parenthesis e.1
  Some ((n.0, e.0), rest)

unfoldable pub entries_at : ReaderOf (List (Option Expression))
entries_at ts = parted_at (after_mark comma) entry_at ts

unfoldable pub named_entries_at : ReaderOf (List (Name × Option Expression))
named_entries_at ts = parted_at (after_mark comma) named_entry_at ts

unfoldable pub by_order_at : ReaderOf Connections
by_order_at ts = do
  es ← entries_at ts
  rest ← after_mark right_parenthesis es.1
  Some (tree.by_order es.0, rest)

unfoldable pub by_name_at : ReaderOf Connections
by_name_at ts = do
  es ← named_entries_at ts
  rest ← after_mark right_parenthesis es.1
  Some (tree.by_name es.0, rest)

-- connections, up to the closing parenthesis, which is passed
unfoldable pub connections_at : ReaderOf Connections
connections_at ts = choose (after_mark dot ts) (λ more. by_name_at ts) (by_order_at ts)

unfoldable pub instance_at : ReaderOf (Name × Connections)
instance_at ts = do
  n ← name_at ts
  inside ← after_mark left_parenthesis n.1
  c ← connections_at inside
  Some ((n.0, c.0), c.1)

unfoldable pub instances_at : ReaderOf (List (Name × Connections))
instances_at ts = parted_at (after_mark comma) instance_at ts

unfoldable pub overrides_at : ReaderOf Connections
overrides_at ts =
    choose (after_mark hash ts) (λ more. after_mark left_parenthesis more >>= connections_at) (Some (tree.by_order [], ts))

-- ---- events

unfoldable pub edge_at : ReaderOf EdgeKind
edge_at ts =
    choose (after_word (codes "posedge") ts) (λ rest. Some (tree.posedge, rest)) (
    choose (after_word (codes "negedge") ts) (λ rest. Some (tree.negedge, rest)) (Some (tree.any_edge, ts)))

unfoldable pub event_at : ReaderOf Event
event_at ts = do
  k ← edge_at ts
  n ← name_at k.1
  Some (record { edge = k.0; signal = n.0 }, n.1)

-- `or` or a comma
unfoldable pub next_event : Passes
next_event ts = choose (after_word (codes "or") ts) (λ more. Some more) (after_mark comma ts)

unfoldable pub event_list_at : ReaderOf (List Event)
event_list_at ts = parted_at next_event event_at ts

unfoldable pub events_at : ReaderOf Events
events_at ts = do
  es ← event_list_at ts
  rest ← after_mark right_parenthesis es.1
  Some (tree.on_events es.0, rest)

-- behind the star in parentheses
unfoldable pub star_at : ReaderOf Events
star_at ts = after_mark right_parenthesis ts >>= λ rest. Some (tree.any_change, rest)

-- behind the opening parenthesis
unfoldable pub in_parentheses_at : ReaderOf Events
in_parentheses_at ts = choose (after_mark star ts) star_at (events_at ts)

-- behind the @
unfoldable pub control_at : ReaderOf Events
control_at ts = choose (after_mark star ts) (λ rest. Some (tree.any_change, rest)) (after_mark left_parenthesis ts >>= in_parentheses_at)

-- ---- items, each behind its first word

unfoldable pub port_item_at : Direction → ReaderOf Item
port_item_at d ts = do
  p ← declared_port_at d ts
  rest ← after_mark semicolon p.1
  Some (tree.port p.0, rest)

unfoldable pub parameter_item_at : (is_local : Bool) → ReaderOf Item
parameter_item_at l ts = do
  p ← declared_parameter_at l ts
  rest ← after_mark semicolon p.1
  Some (tree.parameter p.0, rest)

unfoldable pub wires_item_at : ReaderOf Item
wires_item_at ts = do
  s ← flag_at (codes "signed") ts
  r ← perhaps_range_at s.1
  ws ← wires_at r.1
  rest ← after_mark semicolon ws.1
  Some (tree.wires s.0 r.0 ws.0, rest)

unfoldable pub variables_item_at : ReaderOf Item
variables_item_at ts = do
  s ← flag_at (codes "signed") ts
  r ← perhaps_range_at s.1
  vs ← variables_at r.1
  rest ← after_mark semicolon vs.1
  Some (tree.variables s.0 r.0 vs.0, rest)

unfoldable pub assignments_at : ReaderOf (List (Target × Expression))
assignments_at ts = parted_at (after_mark comma) (assignment_at equals) ts

unfoldable pub assign_item_at : ReaderOf Item
assign_item_at ts = do
  xs ← assignments_at ts
  rest ← after_mark semicolon xs.1
  Some (tree.assign xs.0, rest)

unfoldable pub always_item_at : ReaderOf Item
always_item_at ts = do
  control ← after_mark at ts
  es ← control_at control
  s ← statement_at es.1
  Some (tree.always es.0 s.0, s.1)

-- with the first word, which is the name of a module
unfoldable pub instances_item_at : ReaderOf Item
instances_item_at ts = do
  m ← name_at ts
  c ← overrides_at m.1
  is ← instances_at c.1
  rest ← after_mark semicolon is.1
  Some (tree.instances m.0 c.0 is.0, rest)

unfoldable pub declared_item_at : ReaderOf Item
declared_item_at ts =
    choose (direction_at ts) (λ d. port_item_at d.0 d.1) (
    choose (parameter_word_at ts) (λ l. parameter_item_at l.0 l.1) (instances_item_at ts))

unfoldable pub item_at : ReaderOf Item
item_at ts =
    choose (after_word (codes "wire") ts) wires_item_at (
    choose (after_word (codes "reg") ts) variables_item_at (
    choose (after_word (codes "assign") ts) assign_item_at (
    choose (after_word (codes "always") ts) always_item_at (declared_item_at ts))))

-- ---- modules

unfoldable pub header_parameter_at : ReaderOf ParameterDeclaration
header_parameter_at ts = after_word (codes "parameter") ts >>= declared_parameter_at false

unfoldable pub parameter_list_at : ReaderOf (List ParameterDeclaration)
parameter_list_at ts = parted_at (after_mark comma) header_parameter_at ts

-- behind the hash
unfoldable pub some_parameters_at : ReaderOf (List ParameterDeclaration)
some_parameters_at ts = do
  inside ← after_mark left_parenthesis ts
  ps ← parameter_list_at inside
  rest ← after_mark right_parenthesis ps.1
  Some (ps.0, rest)

unfoldable pub header_parameters_at : ReaderOf (List ParameterDeclaration)
header_parameters_at ts = choose (after_mark hash ts) some_parameters_at (Some ([], ts))

unfoldable pub port_list_at : ReaderOf (List PortDeclaration)
port_list_at ts = parted_at (after_mark comma) port_at ts

unfoldable pub declared_ports_at : ReaderOf Ports
declared_ports_at ts = do
  ps ← port_list_at ts
  rest ← after_mark right_parenthesis ps.1
  Some (tree.declared ps.0, rest)

unfoldable pub listed_ports_at : ReaderOf Ports
listed_ports_at ts = do
  ns ← names_at ts
  rest ← after_mark right_parenthesis ns.1
  Some (tree.listed ns.0, rest)

-- behind the opening parenthesis
unfoldable pub some_ports_at : ReaderOf Ports
some_ports_at ts =
    choose (after_mark right_parenthesis ts) (λ rest. Some (tree.listed [], rest)) (
    choose (direction_at ts) (λ d. declared_ports_at ts) (listed_ports_at ts))

unfoldable pub ports_at : ReaderOf Ports
ports_at ts = choose (after_mark left_parenthesis ts) some_ports_at (Some (tree.no_ports, ts))

-- the items up to `endmodule`, which is passed
unfoldable pub items_at : ReaderOf (List Item)
items_at ts = repeated (after_word (codes "endmodule")) item_at ts

unfoldable pub module_at : ReaderOf Module
module_at ts = do
  start ← after_word (codes "module") ts
  n ← name_at start
  ps ← header_parameters_at n.1
  p ← ports_at ps.1
  body ← after_mark semicolon p.1
  items ← items_at body
  Some (record { module_name = n.0; parameters = ps.0; ports = p.0; items = items.0 }, items.1)

unfoldable pub modules_at : ReaderOf (List Module)
modules_at ts = repeated at_end module_at ts

-- the modules that all of the tokens spell
unfoldable pub source_at : List Token → Option Source
source_at ts = modules_at ts >>= λ ms. Some ms.0
