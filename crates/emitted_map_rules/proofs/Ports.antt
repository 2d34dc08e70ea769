-- What a module declares, its ports among it, is declared in its scope.
use Rattle.std.proofs.Common.{◌≡◌, Bool, true, false, cond, ◌||◌, List, [], ◌∷◌, ◌++◌, ◌⊎◌, inl, inr, refl, ap, subst, Option, Some, None}
use Rattle.std.specs.Prelude.{is_some, option_map, ⊤}
use Rattle.std.proofs.lemmas.Bool.{false≢true}
use Rattle.wb_values.specs.Value.{Name, same_name, Entries, entry_of}
use Rattle.wb_values.specs.Choice.{first_of}
use Rattle.verilog_trees.specs.Syntax.{Expression, Range, Direction, PortDeclaration, ParameterDeclaration, Item, port, parameter, wires, variables, assign, always, instances, Module}
use Rattle.verilog_meaning.specs.Expression.{Object, Scope, object_or_undeclared, scope_of}
use Rattle.verilog_meaning.specs.Hierarchy.{Declaration, and_later, declaration_of, declarations, declared_object, ranged_object, parameter_object, one_parameter, override_of, no_overrides, with_values, with_parameters, all_parameters, constants_of, each_port, port_declarations, wire_declarations, variable_declarations, item_declarations, header_ports}
use Rattle.verilog_meaning.specs.Settled.{is_declared_among, IsDeclared, named_ports, declared_ports, item_ports, HasPort}
use Rattle.emitted_designs.specs.Module.{top_of, object_of}
use Rattle.emitted_map_rules.proofs.Lists.{same_some}

-- ---- parameters are declared

abbrev AreDeclared : Entries Object → Type 0
AreDeclared [] = ⊤
AreDeclared (e ∷ es) = (e.1.is_declared ≡ true) × AreDeclared es

value_declared : (s : Scope) (signed : Bool) (r : Option Range) (e : Expression) → (parameter_object s signed r e).is_declared ≡ true
value_declared s signed None e = refl
value_declared s signed (Some r) e = refl

one_declared : (s : Scope) (signed : Bool) (r : Option Range) (e : Expression) (own : Bool)
    → (one_parameter s signed r e (cond own None None)).is_declared ≡ true
one_declared s signed r e true = value_declared s signed r e
one_declared s signed r e false = value_declared s signed r e

one_more : (es : Entries Object) (n : Name) (o : Object) → AreDeclared es → o.is_declared ≡ true → AreDeclared (es ++ (n, o) ∷ [])
one_more [] n o h k = (k, tt)
one_more (e ∷ es) n o h k = (h.0, one_more es n o h.1 k)

values_declared : (d : ParameterDeclaration) (vs : List (Name × Expression)) (known : Entries Object) → AreDeclared known
    → AreDeclared (with_values d no_overrides vs known)
values_declared d [] known h = h
values_declared d (v ∷ vs) known h =
    values_declared d vs (known ++ (v.0, one_parameter (scope_of known) d.signed d.range v.1 (override_of d no_overrides v.0)) ∷ [])
    (one_more known v.0 (one_parameter (scope_of known) d.signed d.range v.1 (override_of d no_overrides v.0)) h
    (one_declared (scope_of known) d.signed d.range v.1 d.is_local))

parameters_declared : (ds : List ParameterDeclaration) (known : Entries Object) → AreDeclared known → AreDeclared (with_parameters ds no_overrides known)
parameters_declared [] known h = h
parameters_declared (d ∷ ds) known h = parameters_declared ds (with_values d no_overrides d.values known) (values_declared d d.values known h)

entry_declared : (es : Entries Object) (n : Name) (o : Object) → AreDeclared es → entry_of es n ≡ Some o → o.is_declared ≡ true
entry_declared [] n o h e = cc
entry_declared (x ∷ es) n o h e = by_test (same_name x.0 n) e (λ f. entry_declared es n o h.1 f)
  where
    by_test : (b : Bool) → cond b (Some x.1) (entry_of es n) ≡ Some o → (entry_of es n ≡ Some o → o.is_declared ≡ true) → o.is_declared ≡ true
    by_test true f more = subst (λ (y : Object). y.is_declared ≡ true) (same_some f) h.0
    by_test false f more = more f

-- ---- declared names

declared_something : (ds : List Declaration) (n : Name) → is_declared_among ds n ≡ true → is_some (declaration_of ds n) ≡ true
declared_something [] n h = absurd (false≢true h)
declared_something (d ∷ ds) n h = by_test (same_name d.of_name n) h (declared_something ds n)
  where
    by_test : (b : Bool) → (b || is_declared_among ds n) ≡ true → (is_declared_among ds n ≡ true → is_some (declaration_of ds n) ≡ true)
        → is_some (cond b (Some (and_later d (declaration_of ds n))) (declaration_of ds n)) ≡ true
    by_test true f more = refl
    by_test false f more = more f

ranged : (s : Scope) (signed : Bool) (r : Option Range) → (ranged_object s signed r).is_declared ≡ true
ranged s signed None = refl
ranged s signed (Some r) = refl

-- What is declared in a module is declared in its scope as the top of a design.
pub in_scope : (x : Module) (n : Name) → IsDeclared (top_of x) n → (object_of x n).is_declared ≡ true
in_scope x n h =
    by_entry (entry_of (constants_of x no_overrides) n) (declaration_of (declarations x) n)
    (λ o e. entry_declared (constants_of x no_overrides) n o (parameters_declared (all_parameters x) [] tt) e)
    (declared_something (declarations x) n h)
  where
    by_entry : (e : Option Object) (d : Option Declaration) → ((o : Object) → e ≡ Some o → o.is_declared ≡ true) → is_some d ≡ true
        → (object_or_undeclared (first_of e (option_map (declared_object (scope_of (constants_of x no_overrides))) d))).is_declared ≡ true
    by_entry (Some o) d known f = known o refl
    by_entry None None known f = absurd (false≢true f)
    by_entry None (Some d) known f = ranged (scope_of (constants_of x no_overrides)) d.signed d.range

-- ---- ports

declared_left : (ds es : List Declaration) (n : Name) → is_declared_among ds n ≡ true → is_declared_among (ds ++ es) n ≡ true
declared_left [] es n h = absurd (false≢true h)
declared_left (d ∷ ds) es n h = by_test (same_name d.of_name n) h (declared_left ds es n)
  where
    by_test : (b : Bool) → (b || is_declared_among ds n) ≡ true → (is_declared_among ds n ≡ true → is_declared_among (ds ++ es) n ≡ true)
        → (b || is_declared_among (ds ++ es) n) ≡ true
    by_test true f more = refl
    by_test false f more = more f

declared_right : (ds es : List Declaration) (n : Name) → is_declared_among es n ≡ true → is_declared_among (ds ++ es) n ≡ true
declared_right [] es n h = h
declared_right (d ∷ ds) es n h = or_true (same_name d.of_name n) (is_declared_among (ds ++ es) n) (declared_right ds es n h)
  where
    or_true : (a b : Bool) → b ≡ true → (a || b) ≡ true
    or_true true b e = refl
    or_true false b e = e

abbrev HasEntry : Entries Direction → Name → Type 0
HasEntry es n = is_some (entry_of es n) ≡ true

entry_either : (es fs : Entries Direction) (n : Name) → HasEntry (es ++ fs) n → HasEntry es n ⊎ HasEntry fs n
entry_either [] fs n h = inr h
entry_either (e ∷ es) fs n h = by_test (same_name e.0 n) h (entry_either es fs n)
  where
    by_test : (b : Bool) → is_some (cond b (Some e.1) (entry_of (es ++ fs) n)) ≡ true → (HasEntry (es ++ fs) n → HasEntry es n ⊎ HasEntry fs n)
        → (is_some (cond b (Some e.1) (entry_of es n)) ≡ true) ⊎ HasEntry fs n
    by_test true f more = inl refl
    by_test false f more = more f

names_declared : (d : PortDeclaration) (ns : List Name) (n : Name) → HasEntry (named_ports d.direction ns) n → is_declared_among (each_port d ns) n ≡ true
names_declared d [] n h = absurd (false≢true h)
names_declared d (m ∷ ns) n h = by_test (same_name m n) h (names_declared d ns n)
  where
    by_test : (b : Bool) → is_some (cond b (Some d.direction) (entry_of (named_ports d.direction ns) n)) ≡ true
        → (HasEntry (named_ports d.direction ns) n → is_declared_among (each_port d ns) n ≡ true) → (b || is_declared_among (each_port d ns) n) ≡ true
    by_test true f more = refl
    by_test false f more = more f

one_or_later : (d : PortDeclaration) (es : Entries Direction) (ds : List Declaration) (n : Name)
    → HasEntry (named_ports d.direction d.names) n ⊎ HasEntry es n → (HasEntry es n → is_declared_among ds n ≡ true)
    → is_declared_among (each_port d d.names ++ ds) n ≡ true
one_or_later d es ds n (inl h) more = declared_left (each_port d d.names) ds n (names_declared d d.names n h)
one_or_later d es ds n (inr h) more = declared_right (each_port d d.names) ds n (more h)

header_declared : (ds : List PortDeclaration) (n : Name) → HasEntry (declared_ports ds) n → is_declared_among (port_declarations ds) n ≡ true
header_declared [] n h = absurd (false≢true h)
header_declared (d ∷ ds) n h =
    one_or_later d (declared_ports ds) (port_declarations ds) n (entry_either (named_ports d.direction d.names) (declared_ports ds) n h) (header_declared ds n)

items_declared : (items : List Item) (n : Name) → HasEntry (item_ports items) n → is_declared_among (item_declarations items) n ≡ true
items_declared [] n h = absurd (false≢true h)
items_declared (port d ∷ items) n h =
    one_or_later d (item_ports items) (item_declarations items) n (entry_either (named_ports d.direction d.names) (item_ports items) n h)
    (items_declared items n)
items_declared (parameter d ∷ items) n h = items_declared items n h
items_declared (wires signed r ws ∷ items) n h = declared_right (wire_declarations signed r ws) (item_declarations items) n (items_declared items n h)
items_declared (variables signed r vs ∷ items) n h =
    declared_right (variable_declarations signed r vs) (item_declarations items) n (items_declared items n h)
items_declared (assign ts ∷ items) n h = items_declared items n h
items_declared (always es x ∷ items) n h = items_declared items n h
items_declared (instances m given is ∷ items) n h = items_declared items n h

-- A port is declared.
pub port_declared : (x : Module) (n : Name) (way : Direction) → HasPort x n way → IsDeclared (top_of x) n
port_declared x n way h =
    by_place (entry_either (declared_ports (header_ports x.ports)) (item_ports x.items) n (ap is_some h))
  where
    by_place : HasEntry (declared_ports (header_ports x.ports)) n ⊎ HasEntry (item_ports x.items) n → is_declared_among (declarations x) n ≡ true
    by_place (inl k) = declared_left (port_declarations (header_ports x.ports)) (item_declarations x.items) n (header_declared (header_ports x.ports) n k)
    by_place (inr k) = declared_right (port_declarations (header_ports x.ports)) (item_declarations x.items) n (items_declared x.items n k)
