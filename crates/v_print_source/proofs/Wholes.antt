-- What is written of each declaration, instance, item and module is what is printed of it.
use Rattle.std.proofs.Common.{◌≡◌, ◌∙◌, refl, sym, ap, Bool, true, false, List, [], ◌∷◌, Option, Some, None, ℕ, map}
use Rattle.std.specs.Prelude.{codes}
use Rattle.std.proofs.lemmas.Bool.{true≢false}
use Rattle.std.specs.declared.boxed.Box.{Box}
use Rattle.std.specs.declared.vec.Vec.{Vec}
use Rattle.std.specs.declared.alloc.Global.{Global}
use Rattle.std.specs.Borrow.{Bor}
use Rattle.wb_values.specs.Value.{Name}
use Rattle.verilog_text.specs.Token.{left_parenthesis, right_parenthesis, left_bracket, right_bracket, semicolon, colon, dot, hash, at, star, equals, Token, word, mark}
use Rattle.verilog_text.specs.Grammar.{direction_word, parameter_word}
use Rattle.verilog_trees.specs.Syntax as pure
use Rattle.v_syntax.specs.declared.tree.Expression.{Expression}
use Rattle.v_syntax.specs.declared.tree.Statement.{Statement}
use Rattle.v_syntax.specs.declared.module.EdgeKind.{EdgeKind}
use Rattle.v_syntax.specs.declared.module.EdgeKind.TheVariants.{Posedge, Negedge, AnyEdge}
use Rattle.v_syntax.specs.declared.module.Event.{Event}
use Rattle.v_syntax.specs.declared.module.Events.{Events}
use Rattle.v_syntax.specs.declared.module.Events.TheVariants.{AnyChange, OnEvents}
use Rattle.v_syntax.specs.declared.module.Range.{Range}
use Rattle.v_syntax.specs.declared.module.NetKind.{NetKind}
use Rattle.v_syntax.specs.declared.module.NetKind.TheVariants.{Wire as WireKind, Reg}
use Rattle.v_syntax.specs.declared.module.PortDeclaration.{PortDeclaration}
use Rattle.v_syntax.specs.declared.module.ParameterDeclaration.{ParameterDeclaration}
use Rattle.v_syntax.specs.declared.module.ParameterValue.{ParameterValue}
use Rattle.v_syntax.specs.declared.module.NamedConnection.{NamedConnection}
use Rattle.v_syntax.specs.declared.module.Connections.{Connections}
use Rattle.v_syntax.specs.declared.module.Connections.TheVariants.{ByName, ByOrder}
use Rattle.v_syntax.specs.declared.module.Wire.{Wire}
use Rattle.v_syntax.specs.declared.module.Variable.{Variable}
use Rattle.v_syntax.specs.declared.module.Assignment.{Assignment}
use Rattle.v_syntax.specs.declared.module.Instance.{Instance}
use Rattle.v_syntax.specs.declared.module.Item.{Item}
use Rattle.v_syntax.specs.declared.module.Item.TheVariants.{Port, Parameter, Wires, Variables, Assign, Always, Instances}
use Rattle.v_syntax.specs.declared.module.Ports.{Ports}
use Rattle.v_syntax.specs.declared.module.Ports.TheVariants.{NoPorts, Listed, Declared}
use Rattle.v_syntax.specs.declared.module.Module.{Module}
use Rattle.v_syntax.specs.declared.module.Tree.{Tree}
use Rattle.v_syntax.specs.Tree.{tree_of, target_of, statement_of}
use Rattle.v_syntax.specs.Source.{edge_of, events_of, optional_range_of, optional_tree_of, boxed_tree_of, direction_of, kind_of, port_of, parameter_of, connections_of, item_of, ports_of, module_of, source_of}
use Rattle.v_print.specs.Spelled.{printed}
use Rattle.v_print.specs.Bodies.{parts_before, row_before, name_before, flag_before, kind_before, event_before, events_before, control_before}
use Rattle.v_print_source.specs.Lists.{is_nil, net_word, name_of, setting_of, wire_of, variable_of, named_of, instance_of, event_of, continuous_of, are_left_out}
use Rattle.v_print_source.specs.Shown.{printed_assignment, printed_statement, printed_range, printed_value, printed_setting, printed_wire, printed_variable, printed_port, printed_parameter, printed_entry, printed_named, printed_connections, printed_overrides, printed_instance, printed_continuous, printed_item, printed_header, printed_ports, printed_module, printed_modules}

-- ---- loops

abbrev pub parts_front : {A B : Type 0} → (B → List Token → List Token) → (A → B) → Bool → List A → List Token → List Token
parts_front f v b xs r = parts_before f b (map v xs) r

abbrev pub row_front : {A B : Type 0} → (B → List Token → List Token) → (A → B) → Bool → List A → List Token → List Token
row_front f v b xs r = row_before f (map v xs) r

abbrev pub events_front : Bool → List Event → List Token → List Token
events_front b es r = events_before b (map event_of es) r

-- ---- declarations

pub range_arm : (o : Option (Box Range Global)) (b : Box Range Global) (x y : Expression) → o ≡ Some b → x ≡ b.value.left → y ≡ b.value.right → (r : List Token)
    → mark left_bracket ∷ printed (tree_of x) (mark colon ∷ printed (tree_of y) (mark right_bracket ∷ r)) ≡ printed_range (optional_range_of o) r
unfolding printed printed_range
range_arm o b x y some left right r =
    (λ i. mark left_bracket ∷ printed (tree_of (left i)) (mark colon ∷ printed (tree_of (right i)) (mark right_bracket ∷ r)))
    ∙ ap (λ (p : Option (Box Range Global)). printed_range (optional_range_of p) r) (sym some)

pub no_range : (o : Option (Box Range Global)) → o ≡ None → (r : List Token) → r ≡ printed_range (optional_range_of o) r
unfolding printed_range
no_range o none r = ap (λ (p : Option (Box Range Global)). printed_range (optional_range_of p) r) (sym none)

kind_shown : (k : NetKind) (r : List Token) → word (net_word k) ∷ r ≡ kind_before (kind_of (Some k)) r
kind_shown WireKind r = refl
kind_shown Reg r = refl

pub kind_arm : (o : Option NetKind) (k : NetKind) (w : Name) → o ≡ Some k → w ≡ net_word k → (r : List Token) → word w ∷ r ≡ kind_before (kind_of o) r
kind_arm o k w some e r = ap (λ (n : Name). word n ∷ r) e ∙ kind_shown k r ∙ ap (λ (j : Option NetKind). kind_before (kind_of j) r) (sym some)

pub no_kind_arm : (k : Option NetKind) → k ≡ None → (r : List Token) → r ≡ kind_before (kind_of k) r
no_kind_arm k is r = ap (λ (j : Option NetKind). kind_before (kind_of j) r) (sym is)

pub port_whole : (p : PortDeclaration) (w : Name) (names : List (Bor (List ℕ))) → w ≡ direction_word (direction_of p.direction) → names ≡ p.names.items → (r : List Token)
    → word w ∷ kind_before (kind_of p.kind) (flag_before (codes "signed") p.signed (printed_range (optional_range_of p.range) (parts_before name_before false (map name_of names) r)))
    ≡ printed_port (port_of p) r
unfolding printed_range printed_port
port_whole p w names e items r =
    λ i. word (e i) ∷ kind_before (kind_of p.kind) (flag_before (codes "signed") p.signed (printed_range (optional_range_of p.range) (parts_before name_before false (map name_of (items i)) r)))

pub setting_whole : (v : ParameterValue) (r : List Token) → word v.name.now ∷ mark equals ∷ printed (tree_of v.value) r ≡ printed_setting (setting_of v) r
unfolding printed printed_setting
setting_whole v r = refl

pub parameter_whole : (p : ParameterDeclaration) (w : Name) (values : List ParameterValue) → w ≡ parameter_word p.is_local → values ≡ p.values.items → (r : List Token)
    → word w ∷ flag_before (codes "signed") p.signed (printed_range (optional_range_of p.range) (parts_before printed_setting false (map setting_of values) r)) ≡ printed_parameter (parameter_of p) r
unfolding printed_range printed_setting printed_parameter
parameter_whole p w values e items r =
    λ i. word (e i) ∷ flag_before (codes "signed") p.signed (printed_range (optional_range_of p.range) (parts_before printed_setting false (map setting_of (items i)) r))

pub value_arm : (o : Option (Box Expression Global)) (b : Box Expression Global) (x : Expression) → o ≡ Some b → x ≡ b.value → (r : List Token)
    → mark equals ∷ printed (tree_of x) r ≡ printed_value (boxed_tree_of o) r
unfolding printed printed_value
value_arm o b x some value r =
    ap (λ (y : Expression). mark equals ∷ printed (tree_of y) r) value ∙ ap (λ (p : Option (Box Expression Global)). printed_value (boxed_tree_of p) r) (sym some)

pub no_value : (o : Option (Box Expression Global)) → o ≡ None → (r : List Token) → r ≡ printed_value (boxed_tree_of o) r
unfolding printed_value
no_value o none r = ap (λ (p : Option (Box Expression Global)). printed_value (boxed_tree_of p) r) (sym none)

pub wire_whole : (w : Wire) (r : List Token) → word w.name.now ∷ printed_value (boxed_tree_of w.value) r ≡ printed_wire (wire_of w) r
unfolding printed_value printed_wire
wire_whole w r = refl

pub variable_whole : (v : Variable) (r : List Token) → word v.name.now ∷ printed_range (optional_range_of v.addresses) r ≡ printed_variable (variable_of v) r
unfolding printed_range printed_variable
variable_whole v r = refl

-- ---- instances

pub entry_arm : (o : Option Expression) (e : Expression) → o ≡ Some e → (r : List Token) → printed (tree_of e) r ≡ printed_entry (optional_tree_of o) r
unfolding printed printed_entry
entry_arm o e some r = ap (λ (p : Option Expression). printed_entry (optional_tree_of p) r) (sym some)

pub no_entry : (o : Option Expression) → o ≡ None → (r : List Token) → r ≡ printed_entry (optional_tree_of o) r
unfolding printed_entry
no_entry o none r = ap (λ (p : Option Expression). printed_entry (optional_tree_of p) r) (sym none)

pub named_whole : (c : NamedConnection) (r : List Token)
    → mark dot ∷ word c.name.now ∷ mark left_parenthesis ∷ printed_entry (optional_tree_of c.value) (mark right_parenthesis ∷ r) ≡ printed_named (named_of c) r
unfolding printed_entry printed_named
named_whole c r = refl

pub by_name_arm : (c : Connections) (v : Vec NamedConnection Global) (xs : List NamedConnection) → c ≡ ByName v → xs ≡ v.items → (r : List Token)
    → parts_before printed_named false (map named_of xs) (mark right_parenthesis ∷ r) ≡ printed_connections (connections_of c) r
unfolding printed_named printed_connections
by_name_arm c v xs is items r =
    ap (λ (ys : List NamedConnection). parts_before printed_named false (map named_of ys) (mark right_parenthesis ∷ r)) items
    ∙ ap (λ (d : Connections). printed_connections (connections_of d) r) (sym is)

pub by_order_arm : (c : Connections) (v : Vec (Option Expression) Global) (xs : List (Option Expression)) → c ≡ ByOrder v → xs ≡ v.items → (r : List Token)
    → parts_before printed_entry false (map optional_tree_of xs) (mark right_parenthesis ∷ r) ≡ printed_connections (connections_of c) r
unfolding printed_entry printed_connections
by_order_arm c v xs is items r =
    ap (λ (ys : List (Option Expression)). parts_before printed_entry false (map optional_tree_of ys) (mark right_parenthesis ∷ r)) items
    ∙ ap (λ (d : Connections). printed_connections (connections_of d) r) (sym is)

left_out_nil : (es : List (Option Expression)) → is_nil es ≡ are_left_out (pure.by_order (map optional_tree_of es))
left_out_nil [] = refl
left_out_nil (e ∷ es) = refl

pub named_kept : (c : Connections) (v : Vec NamedConnection Global) → c ≡ ByName v → false ≡ are_left_out (connections_of c)
named_kept c v is = ap (λ (d : Connections). are_left_out (connections_of d)) (sym is)

pub entries_left_out : (c : Connections) (v : Vec (Option Expression) Global) (xs : List (Option Expression)) (b : Bool) → c ≡ ByOrder v → xs ≡ v.items → b ≡ is_nil xs → b ≡ are_left_out (connections_of c)
entries_left_out c v xs b is items e =
    e ∙ ap is_nil items ∙ left_out_nil v.items ∙ ap (λ (d : Connections). are_left_out (connections_of d)) (sym is)

pub overrides_kept : (c : pure.Connections) (b : Bool) → b ≡ are_left_out c → b ≡ false → (r : List Token) → mark hash ∷ mark left_parenthesis ∷ printed_connections c r ≡ printed_overrides c r
unfolding printed_connections printed_overrides
overrides_kept (pure.by_order []) b e h r = absurd (true≢false (sym e ∙ h))
overrides_kept (pure.by_order (x ∷ xs)) b e h r = refl
overrides_kept (pure.by_name xs) b e h r = refl

pub overrides_left_out : (c : pure.Connections) (b : Bool) → b ≡ are_left_out c → b ≡ true → (r : List Token) → r ≡ printed_overrides c r
unfolding printed_overrides
overrides_left_out (pure.by_order []) b e h r = refl
overrides_left_out (pure.by_order (x ∷ xs)) b e h r = absurd (true≢false (sym h ∙ e))
overrides_left_out (pure.by_name xs) b e h r = absurd (true≢false (sym h ∙ e))

pub instance_whole : (i : Instance) (r : List Token) → word i.name.now ∷ mark left_parenthesis ∷ printed_connections (connections_of i.connections) r ≡ printed_instance (instance_of i) r
unfolding printed_connections printed_instance
instance_whole i r = refl

-- ---- items

edge_again : (e : Event) (k : EdgeKind) → e.edge ≡ k → (r : List Token) → event_before (record { edge = edge_of k; signal = e.signal.now }) r ≡ event_before (event_of e) r
edge_again e k is r = ap (λ (j : EdgeKind). event_before (record { edge = edge_of j; signal = e.signal.now }) r) (sym is)

pub rising_arm : (e : Event) → e.edge ≡ Posedge → (r : List Token) → word (codes "posedge") ∷ word e.signal.now ∷ r ≡ event_before (event_of e) r
rising_arm e is r = edge_again e Posedge is r

pub falling_arm : (e : Event) → e.edge ≡ Negedge → (r : List Token) → word (codes "negedge") ∷ word e.signal.now ∷ r ≡ event_before (event_of e) r
falling_arm e is r = edge_again e Negedge is r

pub any_edge_arm : (e : Event) → e.edge ≡ AnyEdge → (r : List Token) → word e.signal.now ∷ r ≡ event_before (event_of e) r
any_edge_arm e is r = edge_again e AnyEdge is r

pub any_change_arm : (e : Events) → e ≡ AnyChange → (r : List Token) → mark star ∷ r ≡ control_before (events_of e) r
any_change_arm e is r = ap (λ (d : Events). control_before (events_of d) r) (sym is)

pub on_events_arm : (e : Events) (v : Vec Event Global) (xs : List Event) → e ≡ OnEvents v → xs ≡ v.items → (r : List Token)
    → mark left_parenthesis ∷ events_before false (map event_of xs) (mark right_parenthesis ∷ r) ≡ control_before (events_of e) r
on_events_arm e v xs is items r =
    ap (λ (ys : List Event). mark left_parenthesis ∷ events_before false (map event_of ys) (mark right_parenthesis ∷ r)) items
    ∙ ap (λ (d : Events). control_before (events_of d) r) (sym is)

pub continuous_whole : (a : Assignment) (r : List Token) → printed_assignment equals (target_of a.target) (tree_of a.value) r ≡ printed_continuous (continuous_of a) r
unfolding printed_assignment printed_continuous
continuous_whole a r = refl

same_item : (c : Bool) (i j : Item) → i ≡ j → (r : List Token) → printed_item c (item_of j) r ≡ printed_item c (item_of i) r
same_item c i j is r = ap (λ (k : Item). printed_item c (item_of k) r) (sym is)

pub port_arm : (c : Bool) (i : Item) (p : PortDeclaration) → i ≡ Port p → (r : List Token) → printed_port (port_of p) (mark semicolon ∷ r) ≡ printed_item c (item_of i) r
unfolding printed_port printed_item
port_arm c i p is r = same_item c i (Port p) is r

pub parameter_arm : (c : Bool) (i : Item) (p : ParameterDeclaration) → i ≡ Parameter p → (r : List Token) → printed_parameter (parameter_of p) (mark semicolon ∷ r) ≡ printed_item c (item_of i) r
unfolding printed_parameter printed_item
parameter_arm c i p is r = same_item c i (Parameter p) is r

pub wires_arm : (c : Bool) (i : Item) (s t : Bool) (g : Option (Box Range Global)) (v : Vec Wire Global) (xs : List Wire) → i ≡ Wires s g v → t ≡ s → xs ≡ v.items → (r : List Token)
    → word (codes "wire") ∷ flag_before (codes "signed") t (printed_range (optional_range_of g) (parts_before printed_wire false (map wire_of xs) (mark semicolon ∷ r))) ≡ printed_item c (item_of i) r
unfolding printed_range printed_wire printed_item
wires_arm c i s t g v xs is e items r =
    (λ k. word (codes "wire") ∷ flag_before (codes "signed") (e k) (printed_range (optional_range_of g) (parts_before printed_wire false (map wire_of (items k)) (mark semicolon ∷ r))))
    ∙ same_item c i (Wires s g v) is r

pub variables_arm : (c : Bool) (i : Item) (s t : Bool) (g : Option (Box Range Global)) (v : Vec Variable Global) (xs : List Variable) → i ≡ Variables s g v → t ≡ s → xs ≡ v.items → (r : List Token)
    → word (codes "reg") ∷ flag_before (codes "signed") t (printed_range (optional_range_of g) (parts_before printed_variable false (map variable_of xs) (mark semicolon ∷ r))) ≡ printed_item c (item_of i) r
unfolding printed_range printed_variable printed_item
variables_arm c i s t g v xs is e items r =
    (λ k. word (codes "reg") ∷ flag_before (codes "signed") (e k) (printed_range (optional_range_of g) (parts_before printed_variable false (map variable_of (items k)) (mark semicolon ∷ r))))
    ∙ same_item c i (Variables s g v) is r

pub assign_arm : (c : Bool) (i : Item) (v : Vec Assignment Global) (xs : List Assignment) → i ≡ Assign v → xs ≡ v.items → (r : List Token)
    → word (codes "assign") ∷ parts_before printed_continuous false (map continuous_of xs) (mark semicolon ∷ r) ≡ printed_item c (item_of i) r
unfolding printed_continuous printed_item
assign_arm c i v xs is items r =
    ap (λ (ys : List Assignment). word (codes "assign") ∷ parts_before printed_continuous false (map continuous_of ys) (mark semicolon ∷ r)) items ∙ same_item c i (Assign v) is r

pub always_arm : (c : Bool) (i : Item) (e : Events) (b : Box Statement Global) (x : Statement) → i ≡ Always e b → x ≡ b.value → (r : List Token)
    → word (codes "always") ∷ mark at ∷ control_before (events_of e) (printed_statement c (statement_of x) r) ≡ printed_item c (item_of i) r
unfolding printed_statement printed_item
always_arm c i e b x is value r =
    ap (λ (y : Statement). word (codes "always") ∷ mark at ∷ control_before (events_of e) (printed_statement c (statement_of y) r)) value ∙ same_item c i (Always e b) is r

pub instances_arm : (c : Bool) (i : Item) (n : Bor (List ℕ)) (o : Connections) (v : Vec Instance Global) (xs : List Instance) → i ≡ Instances n o v → xs ≡ v.items → (r : List Token)
    → word n.now ∷ printed_overrides (connections_of o) (parts_before printed_instance false (map instance_of xs) (mark semicolon ∷ r)) ≡ printed_item c (item_of i) r
unfolding printed_overrides printed_instance printed_item
instances_arm c i n o v xs is items r =
    ap (λ (ys : List Instance). word n.now ∷ printed_overrides (connections_of o) (parts_before printed_instance false (map instance_of ys) (mark semicolon ∷ r))) items
    ∙ same_item c i (Instances n o v) is r

-- ---- modules

pub header_kept : (ps : List ParameterDeclaration) (b : Bool) → b ≡ is_nil ps → b ≡ false → (r : List Token)
    → mark hash ∷ mark left_parenthesis ∷ parts_before printed_parameter false (map parameter_of ps) (mark right_parenthesis ∷ r) ≡ printed_header (map parameter_of ps) r
unfolding printed_parameter printed_header
header_kept [] b e h r = absurd (true≢false (sym e ∙ h))
header_kept (p ∷ ps) b e h r = refl

pub header_left_out : (ps : List ParameterDeclaration) (b : Bool) → b ≡ is_nil ps → b ≡ true → (r : List Token) → r ≡ printed_header (map parameter_of ps) r
unfolding printed_header
header_left_out [] b e h r = refl
header_left_out (p ∷ ps) b e h r = absurd (true≢false (sym h ∙ e))

pub no_ports_arm : (p : Ports) → p ≡ NoPorts → (r : List Token) → r ≡ printed_ports (ports_of p) r
unfolding printed_ports
no_ports_arm p is r = ap (λ (q : Ports). printed_ports (ports_of q) r) (sym is)

pub listed_arm : (p : Ports) (v : Vec (Bor (List ℕ)) Global) (xs : List (Bor (List ℕ))) → p ≡ Listed v → xs ≡ v.items → (r : List Token)
    → mark left_parenthesis ∷ parts_before name_before false (map name_of xs) (mark right_parenthesis ∷ r) ≡ printed_ports (ports_of p) r
unfolding printed_ports
listed_arm p v xs is items r =
    ap (λ (ys : List (Bor (List ℕ))). mark left_parenthesis ∷ parts_before name_before false (map name_of ys) (mark right_parenthesis ∷ r)) items
    ∙ ap (λ (q : Ports). printed_ports (ports_of q) r) (sym is)

pub declared_arm : (p : Ports) (v : Vec PortDeclaration Global) (xs : List PortDeclaration) → p ≡ Declared v → xs ≡ v.items → (r : List Token)
    → mark left_parenthesis ∷ parts_before printed_port false (map port_of xs) (mark right_parenthesis ∷ r) ≡ printed_ports (ports_of p) r
unfolding printed_port printed_ports
declared_arm p v xs is items r =
    ap (λ (ys : List PortDeclaration). mark left_parenthesis ∷ parts_before printed_port false (map port_of ys) (mark right_parenthesis ∷ r)) items
    ∙ ap (λ (q : Ports). printed_ports (ports_of q) r) (sym is)

pub module_whole : (c : Bool) (m : Module) (ps : List ParameterDeclaration) (items : List Item) → ps ≡ m.parameters.items → items ≡ m.items.items → (r : List Token)
    → word (codes "module") ∷ word m.name.now ∷ printed_header (map parameter_of ps) (printed_ports (ports_of m.ports) (mark semicolon ∷ row_before (printed_item c) (map item_of items) (word (codes "endmodule") ∷ r)))
    ≡ printed_module c (module_of m) r
unfolding printed_header printed_ports printed_item printed_module
module_whole c m ps items parameters all r =
    λ i. word (codes "module") ∷ word m.name.now ∷ printed_header (map parameter_of (parameters i)) (printed_ports (ports_of m.ports) (mark semicolon ∷ row_before (printed_item c) (map item_of (all i)) (word (codes "endmodule") ∷ r)))

pub source_whole : (c : Bool) (t : Tree) (ms : List Module) → ms ≡ t.modules.items → (r : List Token) → row_before (printed_module c) (map module_of ms) r ≡ printed_modules c (source_of t) r
unfolding printed_module printed_modules
source_whole c t ms items r = ap (λ (ns : List Module). row_before (printed_module c) (map module_of ns) r) items
