-- In a source that can be printed the numbers of each module fit their widths.
use Rattle.std.proofs.Common.{◌≡◌, ◌∙◌, ◌++◌, ℕ, suc, ◌⊎◌, inl, inr, Bool, true, false, List, [], ◌∷◌, cond, Option, Some, None, refl, sym, ap, subst}
use Rattle.std.specs.List.{Contains}
use Rattle.std.proofs.lemmas.Option.{none-some}
use Rattle.wb_values.specs.Value.{Name, Entries, entry_of, same_name}
use Rattle.wb_values.specs.Choice.{first_of}
use Rattle.verilog_trees.specs.Syntax as tree
use Rattle.verilog_trees.specs.Syntax.{Expression, Statement, Target, ParameterDeclaration, Connections, by_name, by_order, Item, Module, Source}
use Rattle.verilog_meaning.specs.Register.{combinational_blocks, is_clocked}
use Rattle.verilog_meaning.specs.Hierarchy.{all_parameters, body_parameters, Instance, instance_named, instance_among, connected, in_order, joined_option, module_named}
use Rattle.verilog_meaning.specs.Settled.{assignments, wire_assignment, wire_assignments, Connection, port_connections, connections_of_each, instance_connections, named_connections, ordered_connections, connection_if_any, PortPlace, port_named, port_numbered}
use Rattle.v_print.specs.Printable.{IsPrintable, Each, EachOfSome, IsPrintableOptional, IsPrintableSetting, IsPrintableParameter, IsPrintableWire, ArePrintableConnections, ArePrintableOverrides, IsPrintableInstance, IsPrintableAssignment, IsPrintableItem, IsPrintableHeader, IsPrintableModule, IsPrintableSource, IsPrintableStatement}
use Rattle.wb_laws.specs.Settled.{HasFittingNumbers, ValuesFit, ParametersFit, HasNumbersThatFit}
use Rattle.verilog_settled.specs.Locality.{LeavesAre, StatementIs}
use Rattle.verilog_unique.specs.Unique.{AnyName, NumbersFitIn, NumbersFit as NumbersFitAll}
use Rattle.verilog_unique.proofs.Descent.{IsAmong, among_contains}
use Rattle.designs_of_texts.proofs.Lists.{each-at, each-append, each-some}
use Rattle.designs_of_texts.proofs.Leaves.{fitting, leaves, statements}

-- ---- parameters

values-fit : (vs : List (Name × Expression)) → Each IsPrintableSetting vs → ValuesFit vs
values-fit [] h = tt
values-fit (v ∷ vs) h = (fitting v.1 h.0.1, values-fit vs h.1)

parameters-fit : (ds : List ParameterDeclaration) → Each IsPrintableParameter ds → ParametersFit ds
parameters-fit [] h = tt
parameters-fit (d ∷ ds) h = (values-fit d.values (each-some IsPrintableSetting d.values h.0.1), parameters-fit ds h.1)

header : (ds : List ParameterDeclaration) → Each IsPrintableHeader ds → Each IsPrintableParameter ds
header [] h = tt
header (d ∷ ds) h = (h.0.0, header ds h.1)

body : (items : List Item) → Each IsPrintableItem items → Each IsPrintableParameter (body_parameters items)
body [] h = tt
body (tree.port d ∷ items) h = body items h.1
body (tree.parameter d ∷ items) h = (h.0, body items h.1)
body (tree.wires s r ws ∷ items) h = body items h.1
body (tree.variables s r vs ∷ items) h = body items h.1
body (tree.assign ts ∷ items) h = body items h.1
body (tree.always es x ∷ items) h = body items h.1
body (tree.instances m given is ∷ items) h = body items h.1

-- ---- overrides

abbrev IsFit : Instance → Type 0
IsFit i = ArePrintableOverrides i.parameters

-- a choice by a test is one of the two
pick : {A : Type 0} (b : Bool) (x y : Option A) (e : A) (P : A → Type 0) → (x ≡ Some e → P e) → (y ≡ Some e → P e) → cond b x y ≡ Some e → P e
pick true x y e P h k q = h q
pick false x y e P h k q = k q

pub same-some : {A : Type 0} (x y : A) → Some x ≡ Some y → x ≡ y
same-some x y e = cc

is-some : {A : Type 0} (P : A → Type 0) (x y : A) → Some x ≡ Some y → P x → P y
is-some P x y e h = subst P (same-some x y e) h

first : (o p : Option Instance) (i : Instance) → (o ≡ Some i → IsFit i) → (p ≡ Some i → IsFit i) → first_of o p ≡ Some i → IsFit i
first None p i h k e = k e
first (Some j) p i h k e = h e

among : (m : Name) (given : Connections) (is : List (Name × Connections)) (u : Name) (i : Instance) → ArePrintableOverrides given
    → instance_among m given is u ≡ Some i → IsFit i
among m given [] u i h e = absurd (none-some i e)
among m given (x ∷ is) u i h e =
    pick (same_name x.0 u) (Some (record { of_module = m; parameters = given; connections = x.1 })) (instance_among m given is u) i IsFit
    (λ q. is-some IsFit (record { of_module = m; parameters = given; connections = x.1 }) i q h) (among m given is u i h) e

instances-fit : (items : List Item) (u : Name) (i : Instance) → Each IsPrintableItem items → instance_named items u ≡ Some i → IsFit i
instances-fit [] u i h e = absurd (none-some i e)
instances-fit (tree.port d ∷ items) u i h e = instances-fit items u i h.1 e
instances-fit (tree.parameter d ∷ items) u i h e = instances-fit items u i h.1 e
instances-fit (tree.wires s r ws ∷ items) u i h e = instances-fit items u i h.1 e
instances-fit (tree.variables s r vs ∷ items) u i h e = instances-fit items u i h.1 e
instances-fit (tree.assign ts ∷ items) u i h e = instances-fit items u i h.1 e
instances-fit (tree.always es x ∷ items) u i h e = instances-fit items u i h.1 e
instances-fit (tree.instances m given is ∷ items) u i h e =
    first (instance_among m given is u) (instance_named items u) i (among m given is u i h.0.1) (instances-fit items u i h.1) e

optional : (o : Option Expression) (e : Expression) → o ≡ Some e → IsPrintableOptional o → IsPrintable e
optional o e q h = subst IsPrintableOptional q h

pick-joined : (b : Bool) (x : Option Expression) (y : Option (Option Expression)) (e : Expression) → (x ≡ Some e → IsPrintable e)
    → (joined_option y ≡ Some e → IsPrintable e) → joined_option (cond b (Some x) y) ≡ Some e → IsPrintable e
pick-joined true x y e h k q = h q
pick-joined false x y e h k q = k q

under-name : (es : List (Name × Option Expression)) (n : Name) (e : Expression) → Each IsPrintableWire es → joined_option (entry_of es n) ≡ Some e
    → IsPrintable e
under-name [] n e h q = absurd (none-some e q)
under-name (x ∷ es) n e h q =
    pick-joined (same_name x.0 n) x.1 (entry_of es n) e (λ r. optional x.1 e r h.0.1) (under-name es n e h.1) q

by-place : (es : List (Option Expression)) (names : List Name) (n : Name) (e : Expression) → Each IsPrintableOptional es → in_order es names n ≡ Some e
    → IsPrintable e
by-place [] names n e h q = absurd (none-some e q)
by-place (o ∷ es) [] n e h q = absurd (none-some e q)
by-place (o ∷ es) (m ∷ ms) n e h q =
    pick (same_name m n) o (in_order es ms n) e IsPrintable (λ r. optional o e r h.0) (by-place es ms n e h.1) q

override : (given : Connections) (names : List Name) (n : Name) (e : Expression) → ArePrintableOverrides given → connected given names n ≡ Some e
    → IsPrintable e
override (by_name es) names n e h q = under-name es n e (each-some IsPrintableWire es h) q
override (by_order es) names n e h q = by-place es names n e h q

-- ---- assignments, blocks and connections

abbrev AssignedFits : (Target × Expression) → Type 0
AssignedFits a = LeavesAre AnyName a.1

wire-assigned : (n : Name) (o : Option Expression) → IsPrintableOptional o → Each AssignedFits (wire_assignment n o)
wire-assigned n None h = tt
wire-assigned n (Some e) h = (leaves e h, tt)

wires-assigned : (ws : List (Name × Option Expression)) → Each IsPrintableWire ws → Each AssignedFits (wire_assignments ws)
wires-assigned [] h = tt
wires-assigned (w ∷ ws) h =
    each-append AssignedFits (wire_assignment w.0 w.1) (wire_assignments ws) (wire-assigned w.0 w.1 h.0.1) (wires-assigned ws h.1)

all-assigned : (as_ : List (Target × Expression)) → Each IsPrintableAssignment as_ → Each AssignedFits as_
all-assigned [] h = tt
all-assigned (a ∷ as_) h = (leaves a.1 h.0.1, all-assigned as_ h.1)

assigned-fit : (items : List Item) → Each IsPrintableItem items → Each AssignedFits (assignments items)
assigned-fit [] h = tt
assigned-fit (tree.port d ∷ items) h = assigned-fit items h.1
assigned-fit (tree.parameter d ∷ items) h = assigned-fit items h.1
assigned-fit (tree.wires s r ws ∷ items) h =
    each-append AssignedFits (wire_assignments ws) (assignments items) (wires-assigned ws (each-some IsPrintableWire ws h.0.1)) (assigned-fit items h.1)
assigned-fit (tree.variables s r vs ∷ items) h = assigned-fit items h.1
assigned-fit (tree.assign ts ∷ items) h =
    each-append AssignedFits ts (assignments items) (all-assigned ts (each-some IsPrintableAssignment ts h.0)) (assigned-fit items h.1)
assigned-fit (tree.always es x ∷ items) h = assigned-fit items h.1
assigned-fit (tree.instances m given is ∷ items) h = assigned-fit items h.1

block-fits : (b : Bool) (x : Statement) (xs : List Statement) → StatementIs AnyName x → Each (StatementIs AnyName) xs
    → Each (StatementIs AnyName) (cond b xs (x ∷ xs))
block-fits true x xs h k = k
block-fits false x xs h k = (h, k)

blocks-fit : (items : List Item) → Each IsPrintableItem items → Each (StatementIs AnyName) (combinational_blocks items)
blocks-fit [] h = tt
blocks-fit (tree.port d ∷ items) h = blocks-fit items h.1
blocks-fit (tree.parameter d ∷ items) h = blocks-fit items h.1
blocks-fit (tree.wires s r ws ∷ items) h = blocks-fit items h.1
blocks-fit (tree.variables s r vs ∷ items) h = blocks-fit items h.1
blocks-fit (tree.assign ts ∷ items) h = blocks-fit items h.1
blocks-fit (tree.always es x ∷ items) h = block-fits (is_clocked es) x (combinational_blocks items) (statements x h.0.1) (blocks-fit items h.1)
blocks-fit (tree.instances m given is ∷ items) h = blocks-fit items h.1

abbrev ConnectedFits : Connection → Type 0
ConnectedFits c = LeavesAre AnyName c.expression

if-any : (u : Name) (q : PortPlace) (o : Option Expression) → IsPrintableOptional o → Each ConnectedFits (connection_if_any u q o)
if-any u q None h = tt
if-any u q (Some e) h = (leaves e h, tt)

named-fit : (u : Name) (cs : List (Name × Option Expression)) → Each IsPrintableWire cs → Each ConnectedFits (named_connections u cs)
named-fit u [] h = tt
named-fit u (c ∷ cs) h =
    each-append ConnectedFits (connection_if_any u (port_named c.0) c.1) (named_connections u cs) (if-any u (port_named c.0) c.1 h.0.1) (named-fit u cs h.1)

ordered-fit : (u : Name) (k : ℕ) (es : List (Option Expression)) → Each IsPrintableOptional es → Each ConnectedFits (ordered_connections u k es)
ordered-fit u k [] h = tt
ordered-fit u k (e ∷ es) h =
    each-append ConnectedFits (connection_if_any u (port_numbered k) e) (ordered_connections u (suc k) es) (if-any u (port_numbered k) e h.0) (ordered-fit u (suc k) es h.1)

instance-fits : (u : Name) (c : Connections) → ArePrintableConnections c → Each ConnectedFits (instance_connections u c)
instance-fits u (by_name cs) h = named-fit u cs (each-some IsPrintableWire cs h)
instance-fits u (by_order es) h = ordered-fit u 0 es (each-some IsPrintableOptional es h)

each-instance : (is : List (Name × Connections)) → Each IsPrintableInstance is → Each ConnectedFits (connections_of_each is)
each-instance [] h = tt
each-instance (i ∷ is) h =
    each-append ConnectedFits (instance_connections i.0 i.1) (connections_of_each is) (instance-fits i.0 i.1 h.0.1) (each-instance is h.1)

connected-fit : (items : List Item) → Each IsPrintableItem items → Each ConnectedFits (port_connections items)
connected-fit [] h = tt
connected-fit (tree.port d ∷ items) h = connected-fit items h.1
connected-fit (tree.parameter d ∷ items) h = connected-fit items h.1
connected-fit (tree.wires s r ws ∷ items) h = connected-fit items h.1
connected-fit (tree.variables s r vs ∷ items) h = connected-fit items h.1
connected-fit (tree.assign ts ∷ items) h = connected-fit items h.1
connected-fit (tree.always es x ∷ items) h = connected-fit items h.1
connected-fit (tree.instances m given is ∷ items) h =
    each-append ConnectedFits (connections_of_each is) (port_connections items) (each-instance is (each-some IsPrintableInstance is h.0.2)) (connected-fit items h.1)

-- ---- modules

pub all-printable : (m : Module) → IsPrintableModule m → Each IsPrintableParameter (all_parameters m)
all-printable m h = each-append IsPrintableParameter m.parameters (body_parameters m.items) (header m.parameters h.1) (body m.items h.3)

module-fits : (m : Module) → IsPrintableModule m → NumbersFitIn m
module-fits m h = record {
  parameters = record {
    parameters = parameters-fit (all_parameters m) (all-printable m h);
    overrides = λ u i names n e q r. fitting e (override i.parameters names n e (instances-fit m.items u i h.3 q) r);
  };
  assigned = λ a c. each-at AssignedFits (assignments m.items) a (assigned-fit m.items h.3) (among_contains (assignments m.items) a c);
  blocks = λ x c. each-at (StatementIs AnyName) (combinational_blocks m.items) x (blocks-fit m.items h.3) (among_contains (combinational_blocks m.items) x c);
  connected = λ x c. each-at ConnectedFits (port_connections m.items) x (connected-fit m.items h.3) (among_contains (port_connections m.items) x c);
}

pub module-of : (ms : Source) (n : Name) (m : Module) → IsPrintableSource ms → module_named ms n ≡ Some m → IsPrintableModule m
module-of [] n m h e = absurd (none-some m e)
module-of (x ∷ ms) n m h e =
    pick (same_name x.module_name n) (Some x) (module_named ms n) m IsPrintableModule
    (λ q. is-some IsPrintableModule x m q h.0) (module-of ms n m h.1) e

pub numbers-fit : (ms : Source) → IsPrintableSource ms → NumbersFitAll ms
numbers-fit ms h n m e = module-fits m (module-of ms n m h e)
