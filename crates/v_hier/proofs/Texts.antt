-- The names in an item of a module, and in its list of ports.
use Rattle.std.proofs.Common.{◌≡◌, refl, ap, Bool, ◌&&◌, List, [], ◌∷◌, ◌++◌, Option, Some, None}
use Rattle.wb_values.specs.Value.{Name}
use Rattle.verilog_trees.specs.Syntax.{Expression, Target, Statement, Range, PortDeclaration, Connections, by_name, by_order, Event, Events, any_change, on_events, Item, port, parameter, wires, variables, assign, always, instances}
use Rattle.verilog_designs.specs.Names.{names_in, names_in_target, names_in_statement, names_in_range, names_in_optional, names_in_named, names_in_ordered, names_in_connections, names_in_events, names_in_ports, names_in_addresses, names_in_assignments, names_in_instances}
use Rattle.v_hier.specs.Reading.{all_known, expression_known, target_known, statement_known, range_known, optional_known, named_known, ordered_known, addresses_known, assignments_known, connections_known, instances_known, event_list_known, events_known, ports_known, text_known}
use Rattle.v_hier.proofs.Listed.{known-append, known-both}

pub range-known : (k : Name → Bool) (r : Option Range) → all_known k (names_in_range r) ≡ range_known k r
unfolding expression_known
range-known k None = refl
range-known k (Some r) = known-append k (names_in r.left) (names_in r.right)

optional-known : (k : Name → Bool) (e : Option Expression) → all_known k (names_in_optional e) ≡ optional_known k e
unfolding expression_known
optional-known k None = refl
optional-known k (Some e) = refl

named-known : (k : Name → Bool) (cs : List (Name × Option Expression)) → all_known k (names_in_named cs) ≡ named_known k cs
named-known k [] = refl
named-known k (c ∷ cs) = known-both k (names_in_optional c.1) _ _ _ (optional-known k c.1) (named-known k cs)

ordered-known : (k : Name → Bool) (es : List (Option Expression)) → all_known k (names_in_ordered es) ≡ ordered_known k es
ordered-known k [] = refl
ordered-known k (e ∷ es) = known-both k (names_in_optional e) _ _ _ (optional-known k e) (ordered-known k es)

pub addresses-known : (k : Name → Bool) (vs : List (Name × Option Range)) → all_known k (names_in_addresses vs) ≡ addresses_known k vs
addresses-known k [] = refl
addresses-known k (v ∷ vs) = known-both k (names_in_range v.1) _ _ _ (range-known k v.1) (addresses-known k vs)

pub assignments-known : (k : Name → Bool) (ts : List (Target × Expression)) → all_known k (names_in_assignments ts) ≡ assignments_known k ts
unfolding expression_known target_known
assignments-known k [] = refl
assignments-known k (a ∷ rest) =
    known-both k (names_in_target a.0 ++ names_in a.1) _ _ _ (known-append k (names_in_target a.0) (names_in a.1)) (assignments-known k rest)

pub connections-known : (k : Name → Bool) (cs : Connections) → all_known k (names_in_connections cs) ≡ connections_known k cs
connections-known k (by_name cs) = named-known k cs
connections-known k (by_order es) = ordered-known k es

instances-known : (k : Name → Bool) (is : List (Name × Connections)) → all_known k (names_in_instances is) ≡ instances_known k is
instances-known k [] = refl
instances-known k (i ∷ is) = known-both k (names_in_connections i.1) _ _ _ (connections-known k i.1) (instances-known k is)

event_list-known : (k : Name → Bool) (es : List Event) → all_known k (names_in_events (on_events es)) ≡ event_list_known k es
event_list-known k [] = refl
event_list-known k (e ∷ es) = ap (λ b. k e.signal && b) (event_list-known k es)

events-known : (k : Name → Bool) (es : Events) → all_known k (names_in_events es) ≡ events_known k es
events-known k any_change = refl
events-known k (on_events es) = event_list-known k es

pub ports-known : (k : Name → Bool) (ds : List PortDeclaration) → all_known k (names_in_ports ds) ≡ ports_known k ds
ports-known k [] = refl
ports-known k (d ∷ ds) = known-both k (names_in_range d.range) _ _ _ (range-known k d.range) (ports-known k ds)

statement-known : (k : Name → Bool) (es : Events) (x : Statement) → all_known k (names_in_events es ++ names_in_statement x) ≡ (events_known k es && statement_known k x)
unfolding statement_known
statement-known k es x = known-both k (names_in_events es) (names_in_statement x) _ _ (events-known k es) refl

-- the names in an item that declares no parameters
abbrev pub text_names : Item → List Name
text_names (port d) = names_in_range d.range
text_names (parameter d) = []
text_names (wires signed r ws) = names_in_range r ++ names_in_named ws
text_names (variables signed r vs) = names_in_range r ++ names_in_addresses vs
text_names (assign ts) = names_in_assignments ts
text_names (always es x) = names_in_events es ++ names_in_statement x
text_names (instances m given is) = names_in_connections given ++ names_in_instances is

pub text-known : (k : Name → Bool) (i : Item) → all_known k (text_names i) ≡ text_known k i
text-known k (port d) = range-known k d.range
text-known k (parameter d) = refl
text-known k (wires signed r ws) = known-both k (names_in_range r) _ _ _ (range-known k r) (named-known k ws)
text-known k (variables signed r vs) = known-both k (names_in_range r) _ _ _ (range-known k r) (addresses-known k vs)
text-known k (assign ts) = assignments-known k ts
text-known k (always es x) = statement-known k es x
text-known k (instances m given is) = known-both k (names_in_connections given) _ _ _ (connections-known k given) (instances-known k is)
