-- Printable items, modules and sources are spelled by their printed tokens.
use Rattle.std.proofs.Common.{Bool, true, false, List, [], ◌∷◌, Option, Some, None}
use Rattle.std.specs.Prelude.{codes}
use Rattle.wb_values.specs.Value.{Name}
use Rattle.verilog_text.specs.Token.{right_parenthesis, right_bracket, comma, semicolon, colon, equals, Token, word, mark}
use Rattle.verilog_trees.specs.Syntax as tree
use Rattle.verilog_trees.specs.Syntax.{Expression, Target, EdgeKind, Event, Events, any_change, on_events, Range, Direction, NetKind, PortDeclaration, ParameterDeclaration, Connections, by_name, by_order, Item, Ports, no_ports, listed, declared, Module, Source}
use Rattle.verilog_text.specs.Grammar.{AreParted, last_part, and_parts, AreInRow, no_more, one_more, IsPerhaps, left_out, given, IsFlag, absent, present, IsName, a_name, IsWhole, bounds, IsPerhapsRange, IsAssignment, IsNetKind, no_kind, a_wire, a_variable, IsPort, a_port, IsSetting, set_to, IsParameter, a_parameter, IsWire, net, IsVariable, variable, IsEntry, empty_entry, an_entry, IsNamedEntry, under_name, AreConnections, named_entries, entries, IsInstance, an_instance, AreOverrides, no_overrides, overrides, IsEvent, an_event, AreEvents, last_event, or_event, IsControl, by_star, by_events, IsItem, a_port_item, a_parameter_item, some_wires, some_variables, some_assignments, a_block, some_instances, IsHeaderParameter, in_header, AreHeaderParameters, no_parameters, some_parameters, ArePorts, none_listed, empty_list, names_listed, ports_declared, IsModule, a_module, IsSource}
use Rattle.v_print.specs.Spelled.{bare}
use Rattle.v_print.specs.Bodies.{bare_statement, parts_before, row_before, name_before, flag_before, range_before, kind_before, port_before, setting_before, parameter_before, value_before, wire_before, variable_before, entry_before, named_before, connections_before, instance_before, overrides_before, event_before, events_before, control_before, continuous_before, item_before, header_before, ports_before, module_before, source_before}
use Rattle.v_print.specs.Printable.{IsPrintableName, IsPrintableOptional, Each, EachOfSome, IsPrintableRange, IsPrintablePort, IsPrintableSetting, IsPrintableParameter, IsPrintableWire, IsPrintableVariable, ArePrintableConnections, IsPrintableInstance, ArePrintableOverrides, IsPrintableEvent, ArePrintableEvents, IsPrintableAssignment, IsPrintableItem, IsPrintableHeader, ArePrintablePorts, IsPrintableModule, IsPrintableSource}
use Rattle.v_print.proofs.Statements.{whole_spelled, assignment_spelled, statement_spelled}

-- ---- lists

abbrev Spells : {A : Type 0} → (A → List Token → List Token → Type 0) → (A → List Token → List Token) → A → Type 0
Spells Is f x = (r : List Token) → Is x (f x r) r

parted_spelled : {A : Type 0} (P : A → Type 0) (Is : A → List Token → List Token → Type 0) (f : A → List Token → List Token) → ((x : A) → P x → Spells Is f x)
    → (xs : List A) → EachOfSome P xs → (r : List Token) → AreParted Is xs (parts_before f false xs r) r
parted_spelled P Is f one [] p r = absurd p
parted_spelled P Is f one (x ∷ []) p r = last_part x (f x r) r (one x p.0 r)
parted_spelled P Is f one (x ∷ y ∷ xs) p r =
    and_parts x (y ∷ xs) (parts_before f false (x ∷ y ∷ xs) r) (parts_before f false (y ∷ xs) r) r (one x p.0 (mark comma ∷ parts_before f false (y ∷ xs) r))
    (parted_spelled P Is f one (y ∷ xs) p.1 r)

row_spelled : {A : Type 0} (P : A → Type 0) (Is : A → List Token → List Token → Type 0) (f : A → List Token → List Token) → ((x : A) → P x → Spells Is f x)
    → (xs : List A) → Each P xs → (r : List Token) → AreInRow Is xs (row_before f xs r) r
row_spelled P Is f one [] p r = no_more r
row_spelled P Is f one (x ∷ xs) p r = one_more x xs (f x (row_before f xs r)) (row_before f xs r) r (one x p.0 (row_before f xs r)) (row_spelled P Is f one xs p.1 r)

-- ---- declarations

name_spelled : (n : Name) → IsPrintableName n → Spells IsName name_before n
name_spelled n p r = a_name n r p.is_free

flag_spelled : (w : Name) (b : Bool) (r : List Token) → IsFlag w b (flag_before w b r) r
flag_spelled w true r = present r
flag_spelled w false r = absent r

range_spelled : (g : Option Range) → IsPrintableRange g → (r : List Token) → IsPerhapsRange g (range_before g r) r
range_spelled None p r = left_out r
range_spelled (Some g) p r =
    let text = bare g.left (mark colon ∷ bare g.right (mark right_bracket ∷ r)) in
    given g text r (bounds g.left g.right text (bare g.right (mark right_bracket ∷ r)) r (whole_spelled g.left p.0 (mark colon ∷ bare g.right (mark right_bracket ∷ r))) (whole_spelled g.right p.1 (mark right_bracket ∷ r)))

kind_spelled : (k : Option NetKind) (r : List Token) → IsNetKind k (kind_before k r) r
kind_spelled None r = no_kind r
kind_spelled (Some tree.wire) r = a_wire r
kind_spelled (Some tree.reg) r = a_variable r

port_spelled : (p : PortDeclaration) → IsPrintablePort p → Spells IsPort port_before p
port_spelled p q r =
    let names = parts_before name_before false p.names r in
    let range = range_before p.range names in
    let sign = flag_before (codes "signed") p.signed range in
    a_port p.direction p.kind p.signed p.range p.names (kind_before p.kind sign) sign range names r (kind_spelled p.kind sign) (flag_spelled (codes "signed") p.signed range)
    (range_spelled p.range q.0 names) (parted_spelled IsPrintableName IsName name_before name_spelled p.names q.1 r)

setting_spelled : (v : Name × Expression) → IsPrintableSetting v → Spells IsSetting setting_before v
setting_spelled v p r = set_to v.0 v.1 (bare v.1 r) r p.0.is_free (whole_spelled v.1 p.1 r)

parameter_spelled : (p : ParameterDeclaration) → IsPrintableParameter p → Spells IsParameter parameter_before p
parameter_spelled p q r =
    let values = parts_before setting_before false p.values r in
    let range = range_before p.range values in
    let sign = flag_before (codes "signed") p.signed range in
    a_parameter p.is_local p.signed p.range p.values sign range values r (flag_spelled (codes "signed") p.signed range) (range_spelled p.range q.0 values)
    (parted_spelled IsPrintableSetting IsSetting setting_before setting_spelled p.values q.1 r)

value_spelled : (e : Option Expression) → IsPrintableOptional e → (r : List Token) → IsPerhaps (mark equals) IsWhole e (value_before e r) r
value_spelled None p r = left_out r
value_spelled (Some e) p r = given e (bare e r) r (whole_spelled e p r)

wire_spelled : (w : Name × Option Expression) → IsPrintableWire w → Spells IsWire wire_before w
wire_spelled w p r = net w.0 w.1 (value_before w.1 r) r p.0.is_free (value_spelled w.1 p.1 r)

variable_spelled : (v : Name × Option Range) → IsPrintableVariable v → Spells IsVariable variable_before v
variable_spelled v p r = variable v.0 v.1 (range_before v.1 r) r p.0.is_free (range_spelled v.1 p.1 r)

-- ---- instances

entry_spelled : (e : Option Expression) → IsPrintableOptional e → Spells IsEntry entry_before e
entry_spelled None p r = empty_entry r
entry_spelled (Some e) p r = an_entry e (bare e r) r (whole_spelled e p r)

named_spelled : (c : Name × Option Expression) → IsPrintableWire c → Spells IsNamedEntry named_before c
named_spelled c p r = under_name c.0 c.1 (entry_before c.1 (mark right_parenthesis ∷ r)) r p.0.is_free (entry_spelled c.1 p.1 (mark right_parenthesis ∷ r))

connections_spelled : (c : Connections) → ArePrintableConnections c → (r : List Token) → AreConnections c (connections_before c r) r
connections_spelled (by_name es) p r =
    named_entries es (parts_before named_before false es (mark right_parenthesis ∷ r)) r (parted_spelled IsPrintableWire IsNamedEntry named_before named_spelled es p (mark right_parenthesis ∷ r))
connections_spelled (by_order es) p r =
    entries es (parts_before entry_before false es (mark right_parenthesis ∷ r)) r (parted_spelled IsPrintableOptional IsEntry entry_before entry_spelled es p (mark right_parenthesis ∷ r))

instance_spelled : (i : Name × Connections) → IsPrintableInstance i → Spells IsInstance instance_before i
instance_spelled i p r = an_instance i.0 i.1 (connections_before i.1 r) r p.0.is_free (connections_spelled i.1 p.1 r)

overrides_spelled : (c : Connections) → ArePrintableOverrides c → (r : List Token) → AreOverrides c (overrides_before c r) r
overrides_spelled (by_order []) p r = no_overrides r
overrides_spelled (by_order (e ∷ es)) p r = overrides (by_order (e ∷ es)) (connections_before (by_order (e ∷ es)) r) r (connections_spelled (by_order (e ∷ es)) p r)
overrides_spelled (by_name es) p r = overrides (by_name es) (connections_before (by_name es) r) r (connections_spelled (by_name es) p r)

-- ---- items

event_spelled : (e : Event) → IsPrintableEvent e → Spells IsEvent event_before e
event_spelled e p r = an_event e.edge e.signal r p.is_free

events_spelled : (es : List Event) → EachOfSome IsPrintableEvent es → (r : List Token) → AreEvents es (events_before false es (mark right_parenthesis ∷ r)) r
events_spelled [] p r = absurd p
events_spelled (e ∷ []) p r = last_event e (event_before e (mark right_parenthesis ∷ r)) r (event_spelled e p.0 (mark right_parenthesis ∷ r))
events_spelled (e ∷ d ∷ es) p r =
    let more = events_before false (d ∷ es) (mark right_parenthesis ∷ r) in
    or_event e (d ∷ es) (events_before false (e ∷ d ∷ es) (mark right_parenthesis ∷ r)) more r (event_spelled e p.0 (word (codes "or") ∷ more)) (events_spelled (d ∷ es) p.1 r)

control_spelled : (es : Events) → ArePrintableEvents es → (r : List Token) → IsControl es (control_before es r) r
control_spelled any_change p r = by_star r
control_spelled (on_events es) p r = by_events es (events_before false es (mark right_parenthesis ∷ r)) r (events_spelled es p r)

continuous_spelled : (a : Target × Expression) → IsPrintableAssignment a → Spells (IsAssignment equals) continuous_before a
continuous_spelled a p r = assignment_spelled equals a.0 a.1 p.0 p.1 r

item_spelled : (c : Bool) (i : Item) → IsPrintableItem i → Spells IsItem (item_before c) i
item_spelled c (tree.port p) q r = a_port_item p (port_before p (mark semicolon ∷ r)) r (port_spelled p q (mark semicolon ∷ r))
item_spelled c (tree.parameter p) q r = a_parameter_item p (parameter_before p (mark semicolon ∷ r)) r (parameter_spelled p q (mark semicolon ∷ r))
item_spelled c (tree.wires s g ws) q r =
    let names = parts_before wire_before false ws (mark semicolon ∷ r) in
    let range = range_before g names in
    some_wires s g ws (flag_before (codes "signed") s range) range names r (flag_spelled (codes "signed") s range) (range_spelled g q.0 names)
    (parted_spelled IsPrintableWire IsWire wire_before wire_spelled ws q.1 (mark semicolon ∷ r))
item_spelled c (tree.variables s g vs) q r =
    let names = parts_before variable_before false vs (mark semicolon ∷ r) in
    let range = range_before g names in
    some_variables s g vs (flag_before (codes "signed") s range) range names r (flag_spelled (codes "signed") s range) (range_spelled g q.0 names)
    (parted_spelled IsPrintableVariable IsVariable variable_before variable_spelled vs q.1 (mark semicolon ∷ r))
item_spelled c (tree.assign xs) q r =
    some_assignments xs (parts_before continuous_before false xs (mark semicolon ∷ r)) r
    (parted_spelled IsPrintableAssignment (IsAssignment equals) continuous_before continuous_spelled xs q (mark semicolon ∷ r))
item_spelled c (tree.always es s) q r =
    let more = bare_statement c s r in
    a_block es s (control_before es more) more r (control_spelled es q.0 more) (statement_spelled c s q.1 r)
item_spelled c (tree.instances m o is) q r =
    let more = parts_before instance_before false is (mark semicolon ∷ r) in
    some_instances m o is (overrides_before o more) more r q.0.is_free (overrides_spelled o q.1 more)
    (parted_spelled IsPrintableInstance IsInstance instance_before instance_spelled is q.2 (mark semicolon ∷ r))

-- ---- modules

header_one : (p : ParameterDeclaration) → IsPrintableHeader p → Spells IsHeaderParameter parameter_before p
header_one p q r = in_header p (parameter_before p r) r (parameter_spelled p q.0 r) q.1

header_spelled : (ps : List ParameterDeclaration) → Each IsPrintableHeader ps → (r : List Token) → AreHeaderParameters ps (header_before ps r) r
header_spelled [] q r = no_parameters r
header_spelled (p ∷ ps) q r =
    some_parameters (p ∷ ps) (parts_before parameter_before false (p ∷ ps) (mark right_parenthesis ∷ r)) r
    (parted_spelled IsPrintableHeader IsHeaderParameter parameter_before header_one (p ∷ ps) q (mark right_parenthesis ∷ r))

ports_spelled : (p : Ports) → ArePrintablePorts p → (r : List Token) → ArePorts p (ports_before p r) r
ports_spelled no_ports q r = none_listed r
ports_spelled (listed []) q r = empty_list r
ports_spelled (listed (n ∷ ns)) q r =
    names_listed (n ∷ ns) (parts_before name_before false (n ∷ ns) (mark right_parenthesis ∷ r)) r (parted_spelled IsPrintableName IsName name_before name_spelled (n ∷ ns) q (mark right_parenthesis ∷ r))
ports_spelled (declared ps) q r =
    ports_declared ps (parts_before port_before false ps (mark right_parenthesis ∷ r)) r (parted_spelled IsPrintablePort IsPort port_before port_spelled ps q (mark right_parenthesis ∷ r))

module_spelled : (c : Bool) (m : Module) → IsPrintableModule m → Spells IsModule (module_before c) m
module_spelled c m q r =
    let body = row_before (item_before c) m.items (word (codes "endmodule") ∷ r) in
    let ports = ports_before m.ports (mark semicolon ∷ body) in
    a_module m.module_name m.parameters m.ports m.items (header_before m.parameters ports) ports body r q.0.is_free (header_spelled m.parameters q.1 ports)
    (ports_spelled m.ports q.2 (mark semicolon ∷ body)) (row_spelled IsPrintableItem IsItem (item_before c) (item_spelled c) m.items q.3 (word (codes "endmodule") ∷ r))

pub source_spelled : (c : Bool) (ms : Source) → IsPrintableSource ms → IsSource ms (source_before c ms [])
source_spelled c ms q = row_spelled IsPrintableModule IsModule (module_before c) (module_spelled c) ms q []
