-- The tokens of printed targets, statements, items and modules, in front of those that follow. `c` says whether the word default has
-- its colon behind it.
use Rattle.std.specs.Prelude.{Bool, true, false, cond, List, [], ◌∷◌, codes, Option, Some, None}
use Rattle.wb_values.specs.Value.{Name}
use Rattle.verilog_text.specs.Token.{Mark, left_parenthesis, right_parenthesis, left_bracket, right_bracket, left_brace, right_brace, semicolon, colon, dot, hash, at, equals, star, less_equals, Token, word, mark}
use Rattle.verilog_text.specs.Grammar.{case_word, direction_word, parameter_word, edge_words}
use Rattle.verilog_trees.specs.Syntax as tree
use Rattle.verilog_trees.specs.Syntax.{Expression, Target, Targets, no_targets, target, CaseKind, Statement, Statements, no_statements, statement, CaseItems, no_items, arm, default_arm, EdgeKind, Event, Events, any_change, on_events, Range, Direction, NetKind, PortDeclaration, ParameterDeclaration, Connections, by_name, by_order, Item, Ports, no_ports, listed, declared, Module, Source}
use Rattle.v_print.specs.Spelled.{parted, bare, bare_parts, bare_selects}

-- ---- targets

abbrev mutual
  pub bare_target : Target → List Token → List Token
  bare_target (tree.place n s) r = word n ∷ bare_selects s r
  bare_target (tree.joined ts) r = mark left_brace ∷ bare_targets false ts (mark right_brace ∷ r)

  pub bare_targets : Bool → Targets → List Token → List Token
  bare_targets b no_targets r = r
  bare_targets b (target t ts) r = parted b (bare_target t (bare_targets true ts r))

abbrev pub assignment_before : Mark → Target → Expression → List Token → List Token
assignment_before m t e r = bare_target t (mark m ∷ bare e r)

-- ---- statements

abbrev pub block_name_before : Option Name → List Token → List Token
block_name_before None r = r
block_name_before (Some n) r = mark colon ∷ word n ∷ r

abbrev pub colon_if : Bool → List Token → List Token
colon_if c r = cond c (mark colon ∷ r) r

abbrev mutual
  pub bare_statement : Bool → Statement → List Token → List Token
  bare_statement c tree.empty r = mark semicolon ∷ r
  bare_statement c (tree.blocking t e) r = assignment_before equals t e (mark semicolon ∷ r)
  bare_statement c (tree.nonblocking t e) r = assignment_before less_equals t e (mark semicolon ∷ r)
  bare_statement c (tree.if_then e s) r = word (codes "if") ∷ mark left_parenthesis ∷ bare e (mark right_parenthesis ∷ bare_statement c s r)
  bare_statement c (tree.if_else e s t) r =
      word (codes "if") ∷ mark left_parenthesis ∷ bare e (mark right_parenthesis ∷ bare_statement c s (word (codes "else") ∷ bare_statement c t r))
  bare_statement c (tree.case k e items) r =
      word (case_word k) ∷ mark left_parenthesis ∷ bare e (mark right_parenthesis ∷ bare_items c items (word (codes "endcase") ∷ r))
  bare_statement c (tree.block n ss) r = word (codes "begin") ∷ block_name_before n (bare_statements c ss (word (codes "end") ∷ r))

  pub bare_statements : Bool → Statements → List Token → List Token
  bare_statements c no_statements r = r
  bare_statements c (statement s ss) r = bare_statement c s (bare_statements c ss r)

  pub bare_items : Bool → CaseItems → List Token → List Token
  bare_items c no_items r = r
  bare_items c (arm es s items) r = bare_parts false es (mark colon ∷ bare_statement c s (bare_items c items r))
  bare_items c (default_arm s items) r = word (codes "default") ∷ colon_if c (bare_statement c s (bare_items c items r))

-- ---- lists

-- with a comma before each, before the first one too where something stands before it
abbrev pub parts_before : {A : Type 0} → (A → List Token → List Token) → Bool → List A → List Token → List Token
parts_before f b [] r = r
parts_before f b (x ∷ xs) r = parted b (f x (parts_before f true xs r))

abbrev pub row_before : {A : Type 0} → (A → List Token → List Token) → List A → List Token → List Token
row_before f [] r = r
row_before f (x ∷ xs) r = f x (row_before f xs r)

-- ---- declarations

abbrev pub name_before : Name → List Token → List Token
name_before n r = word n ∷ r

abbrev pub flag_before : Name → Bool → List Token → List Token
flag_before w b r = cond b (word w ∷ r) r

abbrev pub range_before : Option Range → List Token → List Token
range_before None r = r
range_before (Some g) r = mark left_bracket ∷ bare g.left (mark colon ∷ bare g.right (mark right_bracket ∷ r))

abbrev pub kind_before : Option NetKind → List Token → List Token
kind_before None r = r
kind_before (Some tree.wire) r = word (codes "wire") ∷ r
kind_before (Some tree.reg) r = word (codes "reg") ∷ r

abbrev pub port_before : PortDeclaration → List Token → List Token
port_before p r =
    word (direction_word p.direction) ∷ kind_before p.kind (flag_before (codes "signed") p.signed (range_before p.range (parts_before name_before false p.names r)))

abbrev pub setting_before : (Name × Expression) → List Token → List Token
setting_before v r = word v.0 ∷ mark equals ∷ bare v.1 r

abbrev pub parameter_before : ParameterDeclaration → List Token → List Token
parameter_before p r =
    word (parameter_word p.is_local) ∷ flag_before (codes "signed") p.signed (range_before p.range (parts_before setting_before false p.values r))

abbrev pub value_before : Option Expression → List Token → List Token
value_before None r = r
value_before (Some e) r = mark equals ∷ bare e r

abbrev pub wire_before : (Name × Option Expression) → List Token → List Token
wire_before w r = word w.0 ∷ value_before w.1 r

abbrev pub variable_before : (Name × Option Range) → List Token → List Token
variable_before v r = word v.0 ∷ range_before v.1 r

-- ---- instances

abbrev pub entry_before : Option Expression → List Token → List Token
entry_before None r = r
entry_before (Some e) r = bare e r

abbrev pub named_before : (Name × Option Expression) → List Token → List Token
named_before c r = mark dot ∷ word c.0 ∷ mark left_parenthesis ∷ entry_before c.1 (mark right_parenthesis ∷ r)

-- up to the closing bracket, with it
abbrev pub connections_before : Connections → List Token → List Token
connections_before (by_name es) r = parts_before named_before false es (mark right_parenthesis ∷ r)
connections_before (by_order es) r = parts_before entry_before false es (mark right_parenthesis ∷ r)

abbrev pub instance_before : (Name × Connections) → List Token → List Token
instance_before i r = word i.0 ∷ mark left_parenthesis ∷ connections_before i.1 r

abbrev pub overrides_before : Connections → List Token → List Token
overrides_before (by_order []) r = r
overrides_before (by_order (e ∷ es)) r = mark hash ∷ mark left_parenthesis ∷ connections_before (by_order (e ∷ es)) r
overrides_before (by_name es) r = mark hash ∷ mark left_parenthesis ∷ connections_before (by_name es) r

-- ---- items

abbrev pub event_before : Event → List Token → List Token
event_before e r = edge_words e.edge (word e.signal ∷ r)

abbrev pub or_if : Bool → List Token → List Token
or_if b r = cond b (word (codes "or") ∷ r) r

abbrev pub events_before : Bool → List Event → List Token → List Token
events_before b [] r = r
events_before b (e ∷ es) r = or_if b (event_before e (events_before true es r))

abbrev pub control_before : Events → List Token → List Token
control_before any_change r = mark star ∷ r
control_before (on_events es) r = mark left_parenthesis ∷ events_before false es (mark right_parenthesis ∷ r)

abbrev pub continuous_before : (Target × Expression) → List Token → List Token
continuous_before a r = assignment_before equals a.0 a.1 r

abbrev pub item_before : Bool → Item → List Token → List Token
item_before c (tree.port p) r = port_before p (mark semicolon ∷ r)
item_before c (tree.parameter p) r = parameter_before p (mark semicolon ∷ r)
item_before c (tree.wires s g ws) r = word (codes "wire") ∷ flag_before (codes "signed") s (range_before g (parts_before wire_before false ws (mark semicolon ∷ r)))
item_before c (tree.variables s g vs) r = word (codes "reg") ∷ flag_before (codes "signed") s (range_before g (parts_before variable_before false vs (mark semicolon ∷ r)))
item_before c (tree.assign xs) r = word (codes "assign") ∷ parts_before continuous_before false xs (mark semicolon ∷ r)
item_before c (tree.always es s) r = word (codes "always") ∷ mark at ∷ control_before es (bare_statement c s r)
item_before c (tree.instances m o is) r = word m ∷ overrides_before o (parts_before instance_before false is (mark semicolon ∷ r))

-- ---- modules

abbrev pub header_before : List ParameterDeclaration → List Token → List Token
header_before [] r = r
header_before (p ∷ ps) r = mark hash ∷ mark left_parenthesis ∷ parts_before parameter_before false (p ∷ ps) (mark right_parenthesis ∷ r)

abbrev pub ports_before : Ports → List Token → List Token
ports_before no_ports r = r
ports_before (listed ns) r = mark left_parenthesis ∷ parts_before name_before false ns (mark right_parenthesis ∷ r)
ports_before (declared ps) r = mark left_parenthesis ∷ parts_before port_before false ps (mark right_parenthesis ∷ r)

abbrev pub module_before : Bool → Module → List Token → List Token
module_before c m r =
    word (codes "module") ∷ word m.module_name ∷ header_before m.parameters (ports_before m.ports (mark semicolon ∷ row_before (item_before c) m.items (word (codes "endmodule") ∷ r)))

abbrev pub source_before : Bool → Source → List Token → List Token
source_before c ms r = row_before (module_before c) ms r
