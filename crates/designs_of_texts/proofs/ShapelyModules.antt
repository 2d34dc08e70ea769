-- In the modules of a source that can be printed the rules' reading finds no number that does not fit its width, and no parts without bits.
use Rattle.std.proofs.Common.{◌≡◌, ◌∙◌, ◌≤◌, ◌+◌, ◌&&◌, ◌||◌, ℕ, suc, Bool, true, false, cond, List, [], ◌∷◌, Option, Some, None, refl, sym, ap, subst, arith}
use Rattle.std.proofs.lemmas.Bool.{and_parts}
use Rattle.wb_values.specs.Value.{Name}
use Rattle.wb_values.specs.Choice.{some_if}
use Rattle.verilog_trees.specs.Syntax as tree
use Rattle.verilog_trees.specs.Syntax.{Number, Expression, Expressions, no_expressions, expression, Target, Targets, no_targets, target, Statement, Statements, no_statements, statement, CaseKind, exact_case, wild_case, CaseItems, no_items, arm, default_arm, Event, Events, any_change, on_events, Range, PortDeclaration, ParameterDeclaration, Connections, by_name, by_order, Item, Ports, no_ports, listed, declared, Module, Source}
use Rattle.verilog_meaning.specs.Expression.{Scope}
use Rattle.verilog_meaning.specs.Statement.{target_width, targets_width}
use Rattle.verilog_meaning.specs.Register.{is_clocked}
use Rattle.verilog_meaning.specs.Hierarchy.{Declaration, declarations, header_ports, module_named, Placed, PathStep, Instance, instance_reached}
use Rattle.verilog_meaning.specs.Settled.{Design, as_target, all_as_targets, Connection, instance_connections, named_connections, ordered_connections, connection_if_any, PortPlace, port_named, port_numbered}
use Rattle.verilog_rules.specs.Expression.{Broken, Position, anywhere, nothing, also, by_total, broken, broken_selects}
use Rattle.verilog_designs.specs.Known.{known_at, known_below, known_instance, known_constants, known_overrides, known_scope}
use Rattle.std.proofs.lemmas.Option.{none-some}
use Rattle.std.specs.Prelude.{option_map, option_and_then}
use Rattle.verilog_designs.specs.Expressions.{broken_bound, broken_range, broken_values, broken_width, broken_addresses, broken_parameters, broken_header, broken_ports, target_has_width, targets_have_width, broken_target, broken_targets, broken_net_target, may_be_wild, judged_item, broken_item, broken_items, broken_block_target, broken_statement, broken_statements, broken_arms, broken_event_list, broken_events, broken_assignments, broken_initial_values, broken_output, broken_connection, broken_connections, broken_instances, broken_named_values, broken_ordered_values, broken_overrides, broken_declarations, broken_module_item, broken_module_items, broken_module}
use Rattle.v_print.specs.Printable.{IsPrintable, ArePrintable, AreSome, AreSomeTargets, IsPrintableTarget, ArePrintableTargets, IsPrintableStatement, ArePrintableStatements, ArePrintableItems, Each, EachOfSome, IsPrintableOptional, IsPrintableRange, IsPrintablePort, IsPrintableSetting, IsPrintableParameter, IsPrintableWire, IsPrintableVariable, ArePrintableConnections, ArePrintableOverrides, IsPrintableInstance, IsPrintableAssignment, IsPrintableItem, IsPrintableHeader, ArePrintablePorts, IsPrintableModule, IsPrintableSource}
use Rattle.verilog_unique.proofs.Options.{from_map, from_chain}
use Rattle.verilog_exists.specs.Exists.{IsShapely}
use Rattle.designs_of_texts.proofs.Lists.{each-append, each-some}
use Rattle.designs_of_texts.proofs.Modules.{module-of, same-some}
use Rattle.designs_of_texts.proofs.Shapely.{or-false, bits, number-shapely, total-shapely, shapely, selects-shapely, of-choice}

-- ---- ranges and parameters

range : (s : Scope) (r : Option Range) → IsPrintableRange r → (broken_range s r).misshapen ≡ false
range s None h = refl
range s (Some r) h = or-false (broken_bound s r.left).misshapen (broken_bound s r.right).misshapen (shapely s _ r.left h.0) (shapely s _ r.right h.1)

values : (s : Scope) (r : Option Range) (vs : List (Name × Expression)) → Each IsPrintableSetting vs → (broken_values s r vs).misshapen ≡ false
values s r [] h = refl
values s r (v ∷ vs) h = or-false _ (broken_values s r vs).misshapen (shapely s _ v.1 h.0.1) (values s r vs h.1)

width-rule : (s : Scope) (r : Option Range) → (broken_width s r).misshapen ≡ false
width-rule s None = refl
width-rule s (Some r) = refl

parameters : (s : Scope) (d : ParameterDeclaration) → IsPrintableParameter d → (broken_parameters s d).misshapen ≡ false
parameters s d h =
    or-false (broken_range s d.range).misshapen _ (range s d.range h.0)
    (or-false (broken_width s d.range).misshapen (broken_values s d.range d.values).misshapen (width-rule s d.range)
    (values s d.range d.values (each-some IsPrintableSetting d.values h.1)))

header : (s : Scope) (ds : List ParameterDeclaration) → Each IsPrintableHeader ds → (broken_header s ds).misshapen ≡ false
header s [] h = refl
header s (d ∷ ds) h = or-false (broken_parameters s d).misshapen (broken_header s ds).misshapen (parameters s d h.0.0) (header s ds h.1)

ports : (s : Scope) (ds : List PortDeclaration) → Each IsPrintablePort ds → (broken_ports s ds).misshapen ≡ false
ports s [] h = refl
ports s (d ∷ ds) h = or-false (broken_range s d.range).misshapen (broken_ports s ds).misshapen (range s d.range h.0.0) (ports s ds h.1)

port-list : (s : Scope) (ps : Ports) → ArePrintablePorts ps → (broken_ports s (header_ports ps)).misshapen ≡ false
port-list s no_ports h = refl
port-list s (listed ns) h = refl
port-list s (declared ds) h = ports s ds (each-some IsPrintablePort ds h)

-- ---- targets

mutual
  target-bits : (s : Scope) (t : Target) → IsPrintableTarget t → target_has_width s t ≡ true → 1 ≤ target_width s t
  target-bits s (tree.place n x) h w = bits s (tree.name n x) h w
  target-bits s (tree.joined ts) h w = targets-bits s ts h.0 h.1 w

  targets-bits : (s : Scope) (ts : Targets) → AreSomeTargets ts → ArePrintableTargets ts → targets_have_width s ts ≡ true → 1 ≤ targets_width s ts
  targets-bits s no_targets some h w = absurd some
  targets-bits s (target t ts) some h w =
      let a = target-bits s t h.0 (and_parts (target_has_width s t) (targets_have_width s ts) w).0 in omega (arith, a)

targets-total : (s : Scope) (ts : Targets) (w : ℕ) → AreSomeTargets ts → ArePrintableTargets ts → some_if (targets_have_width s ts) (targets_width s ts) ≡ Some w → 1 ≤ w
targets-total s ts w some h e =
    let c = of-choice (targets_have_width s ts) (targets_width s ts) w e in
    subst (λ n. 1 ≤ n) c.1 (targets-bits s ts some h c.0)

mutual
  target-shapely : (s : Scope) (p : Position) (t : Target) → IsPrintableTarget t → (broken_target s p t).misshapen ≡ false
  target-shapely s p (tree.place n x) h = selects-shapely s p (s n) x h.1
  target-shapely s p (tree.joined ts) h =
      or-false (by_total (some_if (targets_have_width s ts) (targets_width s ts))).misshapen (broken_targets s p ts).misshapen
      (total-shapely (some_if (targets_have_width s ts) (targets_width s ts)) (λ w. targets-total s ts w h.0 h.1)) (targets-shapely s p ts h.1)

  targets-shapely : (s : Scope) (p : Position) (ts : Targets) → ArePrintableTargets ts → (broken_targets s p ts).misshapen ≡ false
  targets-shapely s p no_targets h = refl
  targets-shapely s p (target t ts) h = or-false (broken_target s p t).misshapen (broken_targets s p ts).misshapen (target-shapely s p t h.0) (targets-shapely s p ts h.1)

-- an expression that is a target as well
mutual
  as-printable : (e : Expression) (t : Target) → IsPrintable e → as_target e ≡ Some t → IsPrintableTarget t
  as-printable (tree.name n x) t h q = subst IsPrintableTarget (same-some (tree.place n x) t q) h
  as-printable (tree.concatenation es) t h q =
      let f = from_map tree.joined (all_as_targets es) t q in
      subst IsPrintableTarget f.2 (all-printable es f.0 h.0 h.1 f.1)
  as-printable (tree.number k) t h q = absurd (none-some t q)
  as-printable (tree.replication k es) t h q = absurd (none-some t q)
  as-printable (tree.as_signed x) t h q = absurd (none-some t q)
  as-printable (tree.as_unsigned x) t h q = absurd (none-some t q)
  as-printable (tree.unary op x) t h q = absurd (none-some t q)
  as-printable (tree.reduction op x) t h q = absurd (none-some t q)
  as-printable (tree.binary op x y) t h q = absurd (none-some t q)
  as-printable (tree.shift op x n) t h q = absurd (none-some t q)
  as-printable (tree.power x n) t h q = absurd (none-some t q)
  as-printable (tree.comparison op x y) t h q = absurd (none-some t q)
  as-printable (tree.logical op x y) t h q = absurd (none-some t q)
  as-printable (tree.conditional c x y) t h q = absurd (none-some t q)

  all-printable : (es : Expressions) (ts : Targets) → AreSome es → ArePrintable es → all_as_targets es ≡ Some ts → IsPrintableTarget (tree.joined ts)
  all-printable no_expressions ts some h q = absurd some
  all-printable (expression e es) ts some h q =
      let f = from_chain (λ t. option_map (target t) (all_as_targets es)) (as_target e) ts q in
      let g = from_map (target f.0) (all_as_targets es) ts f.2 in
      subst (λ us. IsPrintableTarget (tree.joined us)) g.2 (tt, (as-printable e f.0 h.0 f.1, rest-printable es g.0 h.1 g.1))

  rest-printable : (es : Expressions) (ts : Targets) → ArePrintable es → all_as_targets es ≡ Some ts → ArePrintableTargets ts
  rest-printable no_expressions ts h q = subst ArePrintableTargets (same-some no_targets ts q) tt
  rest-printable (expression e es) ts h q =
      let f = from_chain (λ t. option_map (target t) (all_as_targets es)) (as_target e) ts q in
      let g = from_map (target f.0) (all_as_targets es) ts f.2 in
      subst ArePrintableTargets g.2 (as-printable e f.0 h.0 f.1, rest-printable es g.0 h.1 g.1)

-- ---- statements

wild-number : (s : Scope) (b : Bool) (k : Number) → IsPrintable (tree.number k) → (broken s anywhere (tree.number (cond b (record k { has_wild = false }) k))).misshapen ≡ false
wild-number s true k h = number-shapely k h
wild-number s false k h = number-shapely k h

item : (s : Scope) (k : CaseKind) (e : Expression) → IsPrintable e → (broken_item s k e).misshapen ≡ false
item s k (tree.number n) h = wild-number s (may_be_wild k n) n h
item s k (tree.name n x) h = shapely s anywhere (tree.name n x) h
item s k (tree.concatenation es) h = shapely s anywhere (tree.concatenation es) h
item s k (tree.replication c es) h = shapely s anywhere (tree.replication c es) h
item s k (tree.as_signed x) h = shapely s anywhere (tree.as_signed x) h
item s k (tree.as_unsigned x) h = shapely s anywhere (tree.as_unsigned x) h
item s k (tree.unary op x) h = shapely s anywhere (tree.unary op x) h
item s k (tree.reduction op x) h = shapely s anywhere (tree.reduction op x) h
item s k (tree.binary op x y) h = shapely s anywhere (tree.binary op x y) h
item s k (tree.shift op x n) h = shapely s anywhere (tree.shift op x n) h
item s k (tree.power x n) h = shapely s anywhere (tree.power x n) h
item s k (tree.comparison op x y) h = shapely s anywhere (tree.comparison op x y) h
item s k (tree.logical op x y) h = shapely s anywhere (tree.logical op x y) h
item s k (tree.conditional c x y) h = shapely s anywhere (tree.conditional c x y) h

items : (s : Scope) (k : CaseKind) (es : Expressions) → ArePrintable es → (broken_items s k es).misshapen ≡ false
items s k no_expressions h = refl
items s k (expression e es) h = or-false (broken_item s k e).misshapen (broken_items s k es).misshapen (item s k e h.0) (items s k es h.1)

block-target : (s : Scope) (c : Bool) (t : Target) → IsPrintableTarget t → (broken_block_target s c t).misshapen ≡ false
block-target s true t h = target-shapely s anywhere t h
block-target s false t h = target-shapely s anywhere t h

mutual
  statement-shapely : (s : Scope) (c : Bool) (x : Statement) → IsPrintableStatement x → (broken_statement s c x).misshapen ≡ false
  statement-shapely s c tree.empty h = refl
  statement-shapely s c (tree.blocking t e) h = or-false (broken_block_target s c t).misshapen _ (block-target s c t h.0) (shapely s anywhere e h.1)
  statement-shapely s c (tree.nonblocking t e) h = or-false (broken_block_target s c t).misshapen _ (block-target s c t h.0) (shapely s anywhere e h.1)
  statement-shapely s c (tree.if_then e x) h = or-false (broken s anywhere e).misshapen (broken_statement s c x).misshapen (shapely s anywhere e h.0) (statement-shapely s c x h.1)
  statement-shapely s c (tree.if_else e x y) h =
      or-false (broken s anywhere e).misshapen _ (shapely s anywhere e h.0)
      (or-false (broken_statement s c x).misshapen (broken_statement s c y).misshapen (statement-shapely s c x h.1) (statement-shapely s c y h.2))
  statement-shapely s c (tree.case k e as_) h =
      or-false (broken s anywhere e).misshapen (broken_arms s c k as_).misshapen (shapely s anywhere e h.0) (arms-shapely s c k as_ h.2)
  statement-shapely s c (tree.block n xs) h = statements-shapely s c xs h.1

  statements-shapely : (s : Scope) (c : Bool) (xs : Statements) → ArePrintableStatements xs → (broken_statements s c xs).misshapen ≡ false
  statements-shapely s c no_statements h = refl
  statements-shapely s c (statement x xs) h =
      or-false (broken_statement s c x).misshapen (broken_statements s c xs).misshapen (statement-shapely s c x h.0) (statements-shapely s c xs h.1)

  arms-shapely : (s : Scope) (c : Bool) (k : CaseKind) (as_ : CaseItems) → ArePrintableItems as_ → (broken_arms s c k as_).misshapen ≡ false
  arms-shapely s c k no_items h = refl
  arms-shapely s c k (arm es x as_) h =
      or-false (broken_items s k es).misshapen _ (items s k es h.1)
      (or-false (broken_statement s c x).misshapen (broken_arms s c k as_).misshapen (statement-shapely s c x h.2) (arms-shapely s c k as_ h.3))
  arms-shapely s c k (default_arm x as_) h =
      or-false (broken_statement s c x).misshapen (broken_arms s c k as_).misshapen (statement-shapely s c x h.0) (arms-shapely s c k as_ h.1)

event-list : (s : Scope) (es : List Event) → (broken_event_list s es).misshapen ≡ false
event-list s [] = refl
event-list s (e ∷ es) = event-list s es

events : (s : Scope) (es : Events) → (broken_events s es).misshapen ≡ false
events s any_change = refl
events s (on_events es) = event-list s es

-- ---- assignments and connections

assignments-shapely : (s : Scope) (as_ : List (Target × Expression)) → Each IsPrintableAssignment as_ → (broken_assignments s as_).misshapen ≡ false
assignments-shapely s [] h = refl
assignments-shapely s (a ∷ as_) h =
    or-false _ (broken_assignments s as_).misshapen (or-false _ (broken s anywhere a.1).misshapen (target-shapely s _ a.0 h.0.0) (shapely s anywhere a.1 h.0.1)) (assignments-shapely s as_ h.1)

initial : (s : Scope) (ws : List (Name × Option Expression)) → Each IsPrintableWire ws → (broken_initial_values s ws).misshapen ≡ false
initial s [] h = refl
initial s ((n, None) ∷ ws) h = initial s ws h.1
initial s ((n, Some e) ∷ ws) h = or-false (broken s anywhere e).misshapen (broken_initial_values s ws).misshapen (shapely s anywhere e h.0.1) (initial s ws h.1)

output : (s : Scope) (e : Expression) (o : Option Target) → IsPrintable e → as_target e ≡ o → (broken_output s e o).misshapen ≡ false
output s e None h q = shapely s anywhere e h
output s e (Some t) h q = target-shapely s _ t (as-printable e t h q)

chosen : (b : Bool) (x y : Broken) → x.misshapen ≡ false → y.misshapen ≡ false → (cond b x y).misshapen ≡ false
chosen true x y h k = h
chosen false x y h k = k

connection : (s : Scope) (below : Option Module) (c : Connection) → IsPrintable c.expression → (broken_connection s below c).misshapen ≡ false
connection s None c h = shapely s anywhere c.expression h
connection s (Some m) c h =
    chosen _ (broken_output s c.expression (as_target c.expression)) (broken s anywhere c.expression) (output s c.expression (as_target c.expression) h refl) (shapely s anywhere c.expression h)

abbrev IsPrintableConnection : Connection → Type 0
IsPrintableConnection c = IsPrintable c.expression

connections : (s : Scope) (below : Option Module) (cs : List Connection) → Each IsPrintableConnection cs → (broken_connections s below cs).misshapen ≡ false
connections s below [] h = refl
connections s below (c ∷ cs) h = or-false (broken_connection s below c).misshapen (broken_connections s below cs).misshapen (connection s below c h.0) (connections s below cs h.1)

if-any : (u : Name) (q : PortPlace) (o : Option Expression) → IsPrintableOptional o → Each IsPrintableConnection (connection_if_any u q o)
if-any u q None h = tt
if-any u q (Some e) h = (h, tt)

named : (u : Name) (cs : List (Name × Option Expression)) → Each IsPrintableWire cs → Each IsPrintableConnection (named_connections u cs)
named u [] h = tt
named u (c ∷ cs) h =
    each-append IsPrintableConnection (connection_if_any u (port_named c.0) c.1) (named_connections u cs) (if-any u (port_named c.0) c.1 h.0.1) (named u cs h.1)

ordered : (u : Name) (k : ℕ) (es : List (Option Expression)) → Each IsPrintableOptional es → Each IsPrintableConnection (ordered_connections u k es)
ordered u k [] h = tt
ordered u k (e ∷ es) h =
    each-append IsPrintableConnection (connection_if_any u (port_numbered k) e) (ordered_connections u (suc k) es) (if-any u (port_numbered k) e h.0) (ordered u (suc k) es h.1)

of-instance : (u : Name) (c : Connections) → ArePrintableConnections c → Each IsPrintableConnection (instance_connections u c)
of-instance u (by_name cs) h = named u cs (each-some IsPrintableWire cs h)
of-instance u (by_order es) h = ordered u 0 es (each-some IsPrintableOptional es h)

instances-shapely : (s : Scope) (below : Option Module) (is : List (Name × Connections)) → Each IsPrintableInstance is → (broken_instances s below is).misshapen ≡ false
instances-shapely s below [] h = refl
instances-shapely s below (i ∷ is) h =
    or-false (broken_connections s below (instance_connections i.0 i.1)).misshapen (broken_instances s below is).misshapen
    (connections s below (instance_connections i.0 i.1) (of-instance i.0 i.1 h.0.1)) (instances-shapely s below is h.1)

named-values : (s : Scope) (cs : List (Name × Option Expression)) → Each IsPrintableWire cs → (broken_named_values s cs).misshapen ≡ false
named-values s [] h = refl
named-values s ((n, None) ∷ cs) h = named-values s cs h.1
named-values s ((n, Some e) ∷ cs) h = or-false _ (broken_named_values s cs).misshapen (shapely s _ e h.0.1) (named-values s cs h.1)

ordered-values : (s : Scope) (es : List (Option Expression)) → Each IsPrintableOptional es → (broken_ordered_values s es).misshapen ≡ false
ordered-values s [] h = refl
ordered-values s (None ∷ es) h = ordered-values s es h.1
ordered-values s (Some e ∷ es) h = or-false _ (broken_ordered_values s es).misshapen (shapely s _ e h.0) (ordered-values s es h.1)

overrides : (s : Scope) (c : Connections) → ArePrintableOverrides c → (broken_overrides s c).misshapen ≡ false
overrides s (by_name cs) h = named-values s cs (each-some IsPrintableWire cs h)
overrides s (by_order es) h = ordered-values s es h

-- ---- declarations, items and modules

addresses : (s : Scope) (vs : List (Name × Option Range)) → Each IsPrintableVariable vs → (broken_addresses s vs).misshapen ≡ false
addresses s [] h = refl
addresses s (v ∷ vs) h = or-false (broken_range s v.1).misshapen (broken_addresses s vs).misshapen (range s v.1 h.0.1) (addresses s vs h.1)

declarations-shapely : (s : Scope) (m : Module) (ds : List Declaration) → (broken_declarations s m ds).misshapen ≡ false
declarations-shapely s m [] = refl
declarations-shapely s m (d ∷ ds) = declarations-shapely s m ds

one-item : (source : Source) (s : Scope) (i : Item) → IsPrintableItem i → (broken_module_item source s i).misshapen ≡ false
one-item source s (tree.port d) h = range s d.range h.0
one-item source s (tree.parameter d) h = parameters s d h
one-item source s (tree.wires signed r ws) h = or-false (broken_range s r).misshapen (broken_initial_values s ws).misshapen (range s r h.0) (initial s ws (each-some IsPrintableWire ws h.1))
one-item source s (tree.variables signed r vs) h = or-false (broken_range s r).misshapen (broken_addresses s vs).misshapen (range s r h.0) (addresses s vs (each-some IsPrintableVariable vs h.1))
one-item source s (tree.assign ts) h = assignments-shapely s ts (each-some IsPrintableAssignment ts h)
one-item source s (tree.always es x) h = or-false (broken_events s es).misshapen (broken_statement s (is_clocked es) x).misshapen (events s es) (statement-shapely s (is_clocked es) x h.1)
one-item source s (tree.instances m given is) h =
    or-false (broken_overrides s given).misshapen (broken_instances s (module_named source m) is).misshapen (overrides s given h.1)
    (instances-shapely s (module_named source m) is (each-some IsPrintableInstance is h.2))

all-items : (source : Source) (s : Scope) (is : List Item) → Each IsPrintableItem is → (broken_module_items source s is).misshapen ≡ false
all-items source s [] h = refl
all-items source s (i ∷ is) h = or-false (broken_module_item source s i).misshapen (broken_module_items source s is).misshapen (one-item source s i h.0) (all-items source s is h.1)

module-shapely : (source : Source) (p : Placed) → IsPrintableModule p.of_module → (broken_module source p).misshapen ≡ false
module-shapely source p h =
    let s = known_scope p in
    or-false _ _
    (or-false (broken_header s p.of_module.parameters).misshapen (broken_ports s (header_ports p.of_module.ports)).misshapen (header s p.of_module.parameters h.1) (port-list s p.of_module.ports h.2))
    (or-false (broken_declarations s p.of_module (declarations p.of_module)).misshapen (broken_module_items source s p.of_module.items).misshapen
    (declarations-shapely s p.of_module (declarations p.of_module)) (all-items source s p.of_module.items h.3))

-- the module at a path is one of the source
of-source : (source : Source) (top : Name) (path : List PathStep) (q : Placed) → known_at source top path ≡ Some q
    → (k : Name) × (module_named source k ≡ Some q.of_module)
of-source source top [] q e =
    let f = from_map (λ m. record { path = []; of_module = m; constants = known_constants m (λ n. None) }) (module_named source top) q e in
    (top, f.1 ∙ ap (λ (x : Placed). Some x.of_module) f.2)
of-source source top (u ∷ around) q e =
    let one = from_chain (known_below source u) (known_at source top around) q e in
    let two = from_chain (known_instance source (u ∷ one.0.path) (known_scope one.0)) (instance_reached one.0.of_module.items u) q one.2 in
    let f = from_map (λ m. record { path = u ∷ one.0.path; of_module = m; constants = known_constants m (known_overrides (known_scope one.0) two.0.parameters m) })
    (module_named source two.0.of_module) q two.2 in
    (two.0.of_module, f.1 ∙ ap (λ (x : Placed). Some x.of_module) f.2)

pub design-shapely : (d : Design) → IsPrintableSource d.source → IsShapely d
design-shapely d h path q e =
    let k = of-source d.source d.top path q e in
    module-shapely d.source q (module-of d.source k.0 q.of_module h k.1)
