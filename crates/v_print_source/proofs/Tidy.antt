-- The printed tokens of printable sources are such as are printed, and no size among them is 0.
use Rattle.std.proofs.Common.{Bool, true, false, List, [], ◌∷◌, Option, Some, None, refl}
use Rattle.std.specs.Prelude.{codes}
use Rattle.wb_values.specs.Value.{Name}
use Rattle.wb_values.specs.ReservedWords.{is_reserved}
use Rattle.verilog_text.specs.Token.{Mark, left_parenthesis, right_parenthesis, left_bracket, right_bracket, left_brace, right_brace, semicolon, colon, dot, hash, at, equals, star, less_equals, Token, word, mark}
use Rattle.verilog_text.specs.Grammar.{case_word, direction_word, parameter_word}
use Rattle.verilog_trees.specs.Syntax as tree
use Rattle.verilog_trees.specs.Syntax.{Expression, Target, Targets, no_targets, target, CaseKind, Statement, Statements, no_statements, statement, CaseItems, no_items, arm, default_arm, EdgeKind, Event, Events, any_change, on_events, Range, Direction, NetKind, PortDeclaration, ParameterDeclaration, Connections, by_name, by_order, Item, Ports, no_ports, listed, declared, Module, Source}
use Rattle.v_print.specs.Reads.{is_printed}
use Rattle.v_print.specs.Spelled.{bare, bare_selects}
use Rattle.v_print.specs.Bodies.{bare_target, bare_targets, assignment_before, block_name_before, colon_if, bare_statement, bare_statements, bare_items, parts_before, row_before, name_before, flag_before, range_before, kind_before, port_before, setting_before, parameter_before, value_before, wire_before, variable_before, entry_before, named_before, connections_before, instance_before, overrides_before, event_before, or_if, events_before, control_before, continuous_before, item_before, header_before, ports_before, module_before, source_before}
use Rattle.v_print.specs.Printable.{IsPrintableName, IsPrintable, IsPrintableTarget, ArePrintableTargets, IsPrintableOptional, IsPrintableBlockName, IsPrintableStatement, ArePrintableStatements, ArePrintableItems, Each, EachOfSome, IsPrintableRange, IsPrintablePort, IsPrintableSetting, IsPrintableParameter, IsPrintableWire, IsPrintableVariable, ArePrintableConnections, IsPrintableInstance, ArePrintableOverrides, IsPrintableEvent, ArePrintableEvents, IsPrintableAssignment, IsPrintableItem, IsPrintableHeader, ArePrintablePorts, IsPrintableModule, IsPrintableSource}
use Rattle.v_print.proofs.Clean.{IsClean, IsEnd, clean_mark, clean_word, parted_clean, Cleans, bare_clean, parts_clean, selects_clean}

-- ---- the words of the grammar

always_clean : (q : List Token) → IsClean q → IsClean (word (codes "always") ∷ q)
unfolding is_printed is_reserved
always_clean q h = record { printed = h.printed; sized = h.sized }

assign_clean : (q : List Token) → IsClean q → IsClean (word (codes "assign") ∷ q)
unfolding is_printed is_reserved
assign_clean q h = record { printed = h.printed; sized = h.sized }

begin_clean : (q : List Token) → IsClean q → IsClean (word (codes "begin") ∷ q)
unfolding is_printed is_reserved
begin_clean q h = record { printed = h.printed; sized = h.sized }

case_clean : (q : List Token) → IsClean q → IsClean (word (codes "case") ∷ q)
unfolding is_printed is_reserved
case_clean q h = record { printed = h.printed; sized = h.sized }

casez_clean : (q : List Token) → IsClean q → IsClean (word (codes "casez") ∷ q)
unfolding is_printed is_reserved
casez_clean q h = record { printed = h.printed; sized = h.sized }

default_clean : (q : List Token) → IsClean q → IsClean (word (codes "default") ∷ q)
unfolding is_printed is_reserved
default_clean q h = record { printed = h.printed; sized = h.sized }

else_clean : (q : List Token) → IsClean q → IsClean (word (codes "else") ∷ q)
unfolding is_printed is_reserved
else_clean q h = record { printed = h.printed; sized = h.sized }

end_clean : (q : List Token) → IsClean q → IsClean (word (codes "end") ∷ q)
unfolding is_printed is_reserved
end_clean q h = record { printed = h.printed; sized = h.sized }

endcase_clean : (q : List Token) → IsClean q → IsClean (word (codes "endcase") ∷ q)
unfolding is_printed is_reserved
endcase_clean q h = record { printed = h.printed; sized = h.sized }

endmodule_clean : (q : List Token) → IsClean q → IsClean (word (codes "endmodule") ∷ q)
unfolding is_printed is_reserved
endmodule_clean q h = record { printed = h.printed; sized = h.sized }

if_clean : (q : List Token) → IsClean q → IsClean (word (codes "if") ∷ q)
unfolding is_printed is_reserved
if_clean q h = record { printed = h.printed; sized = h.sized }

input_clean : (q : List Token) → IsClean q → IsClean (word (codes "input") ∷ q)
unfolding is_printed is_reserved
input_clean q h = record { printed = h.printed; sized = h.sized }

localparam_clean : (q : List Token) → IsClean q → IsClean (word (codes "localparam") ∷ q)
unfolding is_printed is_reserved
localparam_clean q h = record { printed = h.printed; sized = h.sized }

module_clean : (q : List Token) → IsClean q → IsClean (word (codes "module") ∷ q)
unfolding is_printed is_reserved
module_clean q h = record { printed = h.printed; sized = h.sized }

negedge_clean : (q : List Token) → IsClean q → IsClean (word (codes "negedge") ∷ q)
unfolding is_printed is_reserved
negedge_clean q h = record { printed = h.printed; sized = h.sized }

or_clean : (q : List Token) → IsClean q → IsClean (word (codes "or") ∷ q)
unfolding is_printed is_reserved
or_clean q h = record { printed = h.printed; sized = h.sized }

output_clean : (q : List Token) → IsClean q → IsClean (word (codes "output") ∷ q)
unfolding is_printed is_reserved
output_clean q h = record { printed = h.printed; sized = h.sized }

parameter_clean : (q : List Token) → IsClean q → IsClean (word (codes "parameter") ∷ q)
unfolding is_printed is_reserved
parameter_clean q h = record { printed = h.printed; sized = h.sized }

posedge_clean : (q : List Token) → IsClean q → IsClean (word (codes "posedge") ∷ q)
unfolding is_printed is_reserved
posedge_clean q h = record { printed = h.printed; sized = h.sized }

reg_clean : (q : List Token) → IsClean q → IsClean (word (codes "reg") ∷ q)
unfolding is_printed is_reserved
reg_clean q h = record { printed = h.printed; sized = h.sized }

signed_clean : (q : List Token) → IsClean q → IsClean (word (codes "signed") ∷ q)
unfolding is_printed is_reserved
signed_clean q h = record { printed = h.printed; sized = h.sized }

wire_clean : (q : List Token) → IsClean q → IsClean (word (codes "wire") ∷ q)
unfolding is_printed is_reserved
wire_clean q h = record { printed = h.printed; sized = h.sized }

-- ---- targets and statements

-- tokens that are clean in front of what is
abbrev Starts : (List Token → List Token) → Type 0
Starts f = (r : List Token) → IsClean r → IsClean (f r)

mutual
  target_clean : (t : Target) → IsPrintableTarget t → Starts (bare_target t)
  target_clean (tree.place n s) p r c = clean_word n (bare_selects s r) p.0.is_written (selects_clean s p.1 r c)
  target_clean (tree.joined ts) p r c =
      clean_mark left_brace (bare_targets false ts (mark right_brace ∷ r)) (targets_clean false ts p.1 (mark right_brace ∷ r) (clean_mark right_brace r c))

  targets_clean : (b : Bool) (ts : Targets) → ArePrintableTargets ts → Starts (bare_targets b ts)
  targets_clean b no_targets p r c = c
  targets_clean b (target t ts) p r c =
      parted_clean b (bare_target t (bare_targets true ts r)) (target_clean t p.0 (bare_targets true ts r) (targets_clean true ts p.1 r c))

assignment_clean : (m : Mark) (t : Target) (e : Expression) → IsPrintableTarget t → IsPrintable e → Cleans (assignment_before m t e)
assignment_clean m t e p q r c end = target_clean t p (mark m ∷ bare e r) (clean_mark m (bare e r) (bare_clean e q r c end))

block_name_clean : (n : Option Name) → IsPrintableBlockName n → Starts (block_name_before n)
block_name_clean None p r c = c
block_name_clean (Some n) p r c = clean_mark colon (word n ∷ r) (clean_word n r p.is_written c)

colon_clean : (b : Bool) → Starts (colon_if b)
colon_clean true r c = clean_mark colon r c
colon_clean false r c = c

case_word_clean : (k : CaseKind) (q : List Token) → IsClean q → IsClean (word (case_word k) ∷ q)
case_word_clean tree.exact_case q h = case_clean q h
case_word_clean tree.wild_case q h = casez_clean q h

-- ( expression )
enclosed_clean : (e : Expression) → IsPrintable e → (q : List Token) → IsClean q → IsClean (mark left_parenthesis ∷ bare e (mark right_parenthesis ∷ q))
enclosed_clean e p q c = clean_mark left_parenthesis (bare e (mark right_parenthesis ∷ q)) (bare_clean e p (mark right_parenthesis ∷ q) (clean_mark right_parenthesis q c) refl)

mutual
  statement_clean : (c : Bool) (s : Statement) → IsPrintableStatement s → Starts (bare_statement c s)
  statement_clean c tree.empty p r h = clean_mark semicolon r h
  statement_clean c (tree.blocking t e) p r h = assignment_clean equals t e p.0 p.1 (mark semicolon ∷ r) (clean_mark semicolon r h) refl
  statement_clean c (tree.nonblocking t e) p r h = assignment_clean less_equals t e p.0 p.1 (mark semicolon ∷ r) (clean_mark semicolon r h) refl
  statement_clean c (tree.if_then e s) p r h =
      if_clean (mark left_parenthesis ∷ bare e (mark right_parenthesis ∷ bare_statement c s r)) (enclosed_clean e p.0 (bare_statement c s r) (statement_clean c s p.1 r h))
  statement_clean c (tree.if_else e s t) p r h =
      let other = bare_statement c t r in
      let more = bare_statement c s (word (codes "else") ∷ other) in
      if_clean (mark left_parenthesis ∷ bare e (mark right_parenthesis ∷ more))
      (enclosed_clean e p.0 more (statement_clean c s p.1 (word (codes "else") ∷ other) (else_clean other (statement_clean c t p.2 r h))))
  statement_clean c (tree.case k e items) p r h =
      let more = bare_items c items (word (codes "endcase") ∷ r) in
      case_word_clean k (mark left_parenthesis ∷ bare e (mark right_parenthesis ∷ more)) (enclosed_clean e p.0 more (items_clean c items p.2 (word (codes "endcase") ∷ r) (endcase_clean r h)))
  statement_clean c (tree.block n ss) p r h =
      let more = bare_statements c ss (word (codes "end") ∷ r) in
      begin_clean (block_name_before n more) (block_name_clean n p.0 more (statements_clean c ss p.1 (word (codes "end") ∷ r) (end_clean r h)))

  statements_clean : (c : Bool) (ss : Statements) → ArePrintableStatements ss → Starts (bare_statements c ss)
  statements_clean c no_statements p r h = h
  statements_clean c (statement s ss) p r h = statement_clean c s p.0 (bare_statements c ss r) (statements_clean c ss p.1 r h)

  items_clean : (c : Bool) (items : tree.CaseItems) → ArePrintableItems items → Starts (bare_items c items)
  items_clean c no_items p r h = h
  items_clean c (arm es s items) p r h =
      let more = bare_statement c s (bare_items c items r) in
      parts_clean false es p.1 (mark colon ∷ more) (clean_mark colon more (statement_clean c s p.2 (bare_items c items r) (items_clean c items p.3 r h))) refl
  items_clean c (default_arm s items) p r h =
      let more = bare_statement c s (bare_items c items r) in
      default_clean (colon_if c more) (colon_clean c more (statement_clean c s p.0 (bare_items c items r) (items_clean c items p.1 r h)))

-- ---- lists

parts_end : {A : Type 0} (f : A → List Token → List Token) (xs : List A) (r : List Token) → IsEnd r → IsEnd (parts_before f true xs r)
parts_end f [] r e = e
parts_end f (x ∷ xs) r e = refl

list_clean : {A : Type 0} (P : A → Type 0) (f : A → List Token → List Token) → ((x : A) → P x → Cleans (f x)) → (b : Bool) (xs : List A) → Each P xs → Cleans (parts_before f b xs)
list_clean P f one b [] p r c e = c
list_clean P f one b (x ∷ xs) p r c e =
    parted_clean b (f x (parts_before f true xs r)) (one x p.0 (parts_before f true xs r) (list_clean P f one true xs p.1 r c e) (parts_end f xs r e))

-- one of them at least
some_clean : {A : Type 0} (P : A → Type 0) (f : A → List Token → List Token) → ((x : A) → P x → Cleans (f x)) → (xs : List A) → EachOfSome P xs → Cleans (parts_before f false xs)
some_clean P f one [] p r c e = absurd p
some_clean P f one (x ∷ xs) p r c e = list_clean P f one false (x ∷ xs) p r c e

row_clean : {A : Type 0} (P : A → Type 0) (f : A → List Token → List Token) → ((x : A) → P x → Starts (f x)) → (xs : List A) → Each P xs → Starts (row_before f xs)
row_clean P f one [] p r c = c
row_clean P f one (x ∷ xs) p r c = one x p.0 (row_before f xs r) (row_clean P f one xs p.1 r c)

-- ---- declarations

name_clean : (n : Name) → IsPrintableName n → Cleans (name_before n)
name_clean n p r c e = clean_word n r p.is_written c

flag_clean : (b : Bool) → Starts (flag_before (codes "signed") b)
flag_clean true r c = signed_clean r c
flag_clean false r c = c

range_clean : (g : Option Range) → IsPrintableRange g → Starts (range_before g)
range_clean None p r c = c
range_clean (Some g) p r c =
    let more = bare g.right (mark right_bracket ∷ r) in
    clean_mark left_bracket (bare g.left (mark colon ∷ more))
    (bare_clean g.left p.0 (mark colon ∷ more) (clean_mark colon more (bare_clean g.right p.1 (mark right_bracket ∷ r) (clean_mark right_bracket r c) refl)) refl)

kind_clean : (k : Option NetKind) → Starts (kind_before k)
kind_clean None r c = c
kind_clean (Some tree.wire) r c = wire_clean r c
kind_clean (Some tree.reg) r c = reg_clean r c

direction_clean : (d : Direction) (q : List Token) → IsClean q → IsClean (word (direction_word d) ∷ q)
direction_clean tree.input q h = input_clean q h
direction_clean tree.output q h = output_clean q h

port_clean : (p : PortDeclaration) → IsPrintablePort p → Cleans (port_before p)
port_clean p q r c e =
    let names = parts_before name_before false p.names r in
    let range = range_before p.range names in
    let sign = flag_before (codes "signed") p.signed range in
    direction_clean p.direction (kind_before p.kind sign)
    (kind_clean p.kind sign (flag_clean p.signed range (range_clean p.range q.0 names (some_clean IsPrintableName name_before name_clean p.names q.1 r c e))))

setting_clean : (v : Name × Expression) → IsPrintableSetting v → Cleans (setting_before v)
setting_clean v p r c e = clean_word v.0 (mark equals ∷ bare v.1 r) p.0.is_written (clean_mark equals (bare v.1 r) (bare_clean v.1 p.1 r c e))

parameter_word_clean : (b : Bool) (q : List Token) → IsClean q → IsClean (word (parameter_word b) ∷ q)
parameter_word_clean true q h = localparam_clean q h
parameter_word_clean false q h = parameter_clean q h

declared_clean : (p : ParameterDeclaration) → IsPrintableParameter p → Cleans (parameter_before p)
declared_clean p q r c e =
    let values = parts_before setting_before false p.values r in
    let range = range_before p.range values in
    parameter_word_clean p.is_local (flag_before (codes "signed") p.signed range)
    (flag_clean p.signed range (range_clean p.range q.0 values (some_clean IsPrintableSetting setting_before setting_clean p.values q.1 r c e)))

value_clean : (e : Option Expression) → IsPrintableOptional e → Cleans (value_before e)
value_clean None p r c end = c
value_clean (Some e) p r c end = clean_mark equals (bare e r) (bare_clean e p r c end)

net_clean : (w : Name × Option Expression) → IsPrintableWire w → Cleans (wire_before w)
net_clean w p r c e = clean_word w.0 (value_before w.1 r) p.0.is_written (value_clean w.1 p.1 r c e)

variable_clean : (v : Name × Option Range) → IsPrintableVariable v → Cleans (variable_before v)
variable_clean v p r c e = clean_word v.0 (range_before v.1 r) p.0.is_written (range_clean v.1 p.1 r c)

-- ---- instances

entry_clean : (e : Option Expression) → IsPrintableOptional e → Cleans (entry_before e)
entry_clean None p r c end = c
entry_clean (Some e) p r c end = bare_clean e p r c end

named_clean : (n : Name × Option Expression) → IsPrintableWire n → Cleans (named_before n)
named_clean n p r c e =
    let more = entry_before n.1 (mark right_parenthesis ∷ r) in
    clean_mark dot (word n.0 ∷ mark left_parenthesis ∷ more)
    (clean_word n.0 (mark left_parenthesis ∷ more) p.0.is_written (clean_mark left_parenthesis more (entry_clean n.1 p.1 (mark right_parenthesis ∷ r) (clean_mark right_parenthesis r c) refl)))

connections_clean : (n : Connections) → ArePrintableConnections n → Starts (connections_before n)
connections_clean (by_name es) p r c = some_clean IsPrintableWire named_before named_clean es p (mark right_parenthesis ∷ r) (clean_mark right_parenthesis r c) refl
connections_clean (by_order es) p r c = some_clean IsPrintableOptional entry_before entry_clean es p (mark right_parenthesis ∷ r) (clean_mark right_parenthesis r c) refl

instance_clean : (i : Name × Connections) → IsPrintableInstance i → Cleans (instance_before i)
instance_clean i p r c e =
    let more = connections_before i.1 r in
    clean_word i.0 (mark left_parenthesis ∷ more) p.0.is_written (clean_mark left_parenthesis more (connections_clean i.1 p.1 r c))

hash_clean : Starts (λ q. mark hash ∷ mark left_parenthesis ∷ q)
hash_clean r c = clean_mark hash (mark left_parenthesis ∷ r) (clean_mark left_parenthesis r c)

overrides_clean : (n : Connections) → ArePrintableOverrides n → Starts (overrides_before n)
overrides_clean (by_order []) p r c = c
overrides_clean (by_order (e ∷ es)) p r c = hash_clean (connections_before (by_order (e ∷ es)) r) (connections_clean (by_order (e ∷ es)) p r c)
overrides_clean (by_name es) p r c = hash_clean (connections_before (by_name es) r) (connections_clean (by_name es) p r c)

-- ---- items

edge_clean : (k : EdgeKind) (n : Name) → IsPrintableName n → Starts (λ r. event_before (record { edge = k; signal = n }) r)
edge_clean tree.posedge n p r c = posedge_clean (word n ∷ r) (clean_word n r p.is_written c)
edge_clean tree.negedge n p r c = negedge_clean (word n ∷ r) (clean_word n r p.is_written c)
edge_clean tree.any_edge n p r c = clean_word n r p.is_written c

or_if_clean : (b : Bool) → Starts (or_if b)
or_if_clean true r c = or_clean r c
or_if_clean false r c = c

events_clean : (b : Bool) (es : List Event) → Each IsPrintableEvent es → Starts (events_before b es)
events_clean b [] p r c = c
events_clean b (e ∷ es) p r c =
    or_if_clean b (event_before e (events_before true es r)) (edge_clean e.edge e.signal p.0 (events_before true es r) (events_clean true es p.1 r c))

control_clean : (es : Events) → ArePrintableEvents es → Starts (control_before es)
control_clean any_change p r c = clean_mark star r c
control_clean (on_events []) p r c = absurd p
control_clean (on_events (e ∷ es)) p r c =
    let closing = mark right_parenthesis ∷ r in
    clean_mark left_parenthesis (events_before false (e ∷ es) closing) (events_clean false (e ∷ es) p closing (clean_mark right_parenthesis r c))

continuous_clean : (a : Target × Expression) → IsPrintableAssignment a → Cleans (continuous_before a)
continuous_clean a p r c e = assignment_clean equals a.0 a.1 p.0 p.1 r c e

-- with the mark that ends it
ended_clean : (f : List Token → List Token) → Cleans f → Starts (λ r. f (mark semicolon ∷ r))
ended_clean f h r c = h (mark semicolon ∷ r) (clean_mark semicolon r c) refl

item_clean : (c : Bool) (i : Item) → IsPrintableItem i → Starts (item_before c i)
item_clean c (tree.port p) q r h = ended_clean (port_before p) (port_clean p q) r h
item_clean c (tree.parameter p) q r h = ended_clean (parameter_before p) (declared_clean p q) r h
item_clean c (tree.wires s g ws) q r h =
    let names = parts_before wire_before false ws (mark semicolon ∷ r) in
    let range = range_before g names in
    wire_clean (flag_before (codes "signed") s range)
    (flag_clean s range (range_clean g q.0 names (ended_clean (parts_before wire_before false ws) (some_clean IsPrintableWire wire_before net_clean ws q.1) r h)))
item_clean c (tree.variables s g vs) q r h =
    let names = parts_before variable_before false vs (mark semicolon ∷ r) in
    let range = range_before g names in
    reg_clean (flag_before (codes "signed") s range)
    (flag_clean s range (range_clean g q.0 names (ended_clean (parts_before variable_before false vs) (some_clean IsPrintableVariable variable_before variable_clean vs q.1) r h)))
item_clean c (tree.assign xs) q r h =
    assign_clean (parts_before continuous_before false xs (mark semicolon ∷ r)) (ended_clean (parts_before continuous_before false xs) (some_clean IsPrintableAssignment continuous_before continuous_clean xs q) r h)
item_clean c (tree.always es s) q r h =
    let more = bare_statement c s r in
    always_clean (mark at ∷ control_before es more) (clean_mark at (control_before es more) (control_clean es q.0 more (statement_clean c s q.1 r h)))
item_clean c (tree.instances m o is) q r h =
    let more = parts_before instance_before false is (mark semicolon ∷ r) in
    clean_word m (overrides_before o more) q.0.is_written
    (overrides_clean o q.1 more (ended_clean (parts_before instance_before false is) (some_clean IsPrintableInstance instance_before instance_clean is q.2) r h))

-- ---- modules

header_one_clean : (p : ParameterDeclaration) → IsPrintableHeader p → Cleans (parameter_before p)
header_one_clean p q = declared_clean p q.0

closed_clean : (f : List Token → List Token) → Cleans f → Starts (λ r. f (mark right_parenthesis ∷ r))
closed_clean f h r c = h (mark right_parenthesis ∷ r) (clean_mark right_parenthesis r c) refl

header_clean : (ps : List ParameterDeclaration) → Each IsPrintableHeader ps → Starts (header_before ps)
header_clean [] q r c = c
header_clean (p ∷ ps) q r c =
    hash_clean (parts_before parameter_before false (p ∷ ps) (mark right_parenthesis ∷ r))
    (closed_clean (parts_before parameter_before false (p ∷ ps)) (list_clean IsPrintableHeader parameter_before header_one_clean false (p ∷ ps) q) r c)

ports_clean : (p : Ports) → ArePrintablePorts p → Starts (ports_before p)
ports_clean no_ports q r c = c
ports_clean (listed ns) q r c =
    clean_mark left_parenthesis (parts_before name_before false ns (mark right_parenthesis ∷ r))
    (closed_clean (parts_before name_before false ns) (list_clean IsPrintableName name_before name_clean false ns q) r c)
ports_clean (declared ps) q r c =
    clean_mark left_parenthesis (parts_before port_before false ps (mark right_parenthesis ∷ r))
    (closed_clean (parts_before port_before false ps) (some_clean IsPrintablePort port_before port_clean ps q) r c)

module_is_clean : (c : Bool) (m : Module) → IsPrintableModule m → Starts (module_before c m)
module_is_clean c m q r h =
    let body = row_before (item_before c) m.items (word (codes "endmodule") ∷ r) in
    let ports = ports_before m.ports (mark semicolon ∷ body) in
    let header = header_before m.parameters ports in
    module_clean (word m.module_name ∷ header)
    (clean_word m.module_name header q.0.is_written
    (header_clean m.parameters q.1 ports (ports_clean m.ports q.2 (mark semicolon ∷ body)
    (clean_mark semicolon body (row_clean IsPrintableItem (item_before c) (item_clean c) m.items q.3 (word (codes "endmodule") ∷ r) (endmodule_clean r h))))))

nothing_clean : IsClean []
nothing_clean = record { printed = refl; sized = refl }

pub source_clean : (c : Bool) (ms : Source) → IsPrintableSource ms → IsClean (source_before c ms [])
source_clean c ms q = row_clean IsPrintableModule (module_before c) (module_is_clean c) ms q [] nothing_clean
