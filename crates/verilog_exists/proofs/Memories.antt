-- No memory is driven by a block, an assignment or an output, and none is a port.
use Rattle.std.proofs.Common.{◌≡◌, ℕ, ◌+◌, ◌≤◌, Bool, true, false, cond, not, List, [], ◌∷◌, ◌++◌, ◌⊎◌, inl, inr, refl, sym, ap, ◌∙◌, subst, Option, Some, None, arith}
use Rattle.std.specs.Prelude.{IsTrue, is_some, ◌&&◌, ◌||◌, ◌==◌, nat_le, option_map, option_and_then}
use Rattle.std.specs.List.{list_any}
use Rattle.std.proofs.lemmas.Bool.{false≢true}
use Rattle.std.proofs.lemmas.Bool.Decides.{nat_tests}
use Rattle.wb_values.specs.Value.{Name, same_name, Entries, entry_of}
use Rattle.wb_values.specs.Choice.{first_of}
use Rattle.verilog_trees.specs.Syntax.{Expression, Target, place, joined, Targets, no_targets, target, Statement, empty, blocking, nonblocking, if_then, if_else, case, block, Statements, no_statements, statement, CaseKind, CaseItems, no_items, arm, default_arm, Range, Direction, output, Events, wire, PortDeclaration, ParameterDeclaration, Connections, Item, port, parameter, wires, variables, assign, always, instances, Module, Source}
use Rattle.verilog_meaning.specs.Expression.{Object, Scope, object_or_undeclared, scope_of, is_memory}
use Rattle.verilog_meaning.specs.Register.{is_clocked, combinational_blocks}
use Rattle.verilog_meaning.specs.Hierarchy.{Declaration, declarations, declaration_of, and_later, bounds_of, declared_object, all_parameters, value_names, port_declarations, header_ports, each_port, wire_declarations, variable_declarations, item_declarations, instance_step, PathStep, Placed, placed_scope, module_scope, module_named, instance_named, instance_reached}
use Rattle.verilog_meaning.specs.Settled.{Design, at_path, IsPlacedIn, is_declared_among, IsDeclared, wire_assignment, wire_assignments, assignments, as_target, Connection, instance_connections, port_connections, port_meant, port_directions, port_order, HasPort, IsConnectedTo}
use Rattle.verilog_rules.specs.Expression.{anywhere, broken}
use Rattle.verilog_designs.specs.Known.{known_object, known_declaration, with_known_addresses, known_module_scope, known_scope, known_at, known_below, known_instance, known_overrides, KnownOverrides, known_entry, one_known_parameter, with_known_values, with_known_parameters, known_constants}
use Rattle.verilog_designs.specs.Names.{is_among, count_of, parameter_names, names_where, is_net_alone, is_bare_port, all_instance_names, declared_names, is_once, has_duplicate, has_repeated}
use Rattle.verilog_designs.specs.Ports.{is_output, port_direction}
use Rattle.verilog_designs.specs.Expressions.{writes_memory, one_writes_memory, broken_target, by_constants, broken_statement, broken_statements, broken_arms, broken_block_target, broken_assignments, broken_connection, broken_output, broken_connections, broken_instances, broken_declarations, broken_module_item, broken_module_items, broken_module}
use Rattle.verilog_designs.specs.Drivers.{target_names, targets_names, assigned_names, assigned_in_all, assigned_in_arms}
use Rattle.verilog_designs.specs.Accepted.{HasDuplicateName, duplicate_name, memory_use}
use Rattle.verilog_unique.proofs.Options.{from_map, from_chain, first_false, second_false, not_true, not_is_false, same_is, is_same, split}
use Rattle.verilog_unique.proofs.Descent.{IsAmong, among_left, among_right, among_either}
use Rattle.verilog_unique.proofs.Paths.{StepsTo, step_of}
use Rattle.verilog_unique.proofs.Standing.{stands_in, module_of_instance}
use Rattle.verilog_unique.proofs.Instances.{Belongs, belongs, one_module, any_false}
use Rattle.verilog_unique.proofs.Constants.{is_known}
use Rattle.verilog_unique.proofs.Parameters.{placed_constants, parameter_number, no_constant_memory}
use Rattle.verilog_exists.specs.Exists.{RangesHaveValues}
use Rattle.verilog_exists.specs.Loops.{IsAcceptedButForLoops}

-- ---- a memory has addresses

abbrev addresses_in : Option Declaration → Option Range
addresses_in None = None
addresses_in (Some d) = d.addresses

-- parameters are no memories
abbrev NoMemories : Entries Object → Name → Type 0
NoMemories es n = (o : Object) → entry_of es n ≡ Some o → is_memory o ≡ false

without_addresses : (m : Module) (es : Entries Object) (n : Name) → NoMemories es n → addresses_in (declaration_of (declarations m) n) ≡ None
    → is_memory (module_scope m es n) ≡ false
without_addresses m es n f e = found (entry_of es n) f (declaration_of (declarations m) n) e
  where
    no_addresses : (dd : Declaration) → dd.addresses ≡ None → is_memory (declared_object (scope_of es) dd) ≡ false
    no_addresses dd g = ap (λ a. is_some (option_map (bounds_of (scope_of es)) a)) g

    found : (x : Option Object) → ((o : Object) → x ≡ Some o → is_memory o ≡ false) → (y : Option Declaration) → addresses_in y ≡ None
        → is_memory (object_or_undeclared (first_of x (option_map (declared_object (scope_of es)) y))) ≡ false
    found (Some o) g y h = g o refl
    found None g None h = refl
    found None g (Some dd) h = no_addresses dd h

-- what is no memory by the rules on constants, and has a range there, has no addresses
known_addresses : (m : Module) (known : Entries Object) (n : Name) → entry_of known n ≡ None → IsTrue ((known_module_scope m known n).is_declared)
    → is_memory (known_module_scope m known n) ≡ false → addresses_in (declaration_of (declarations m) n) ≡ None
known_addresses m known n e = found (entry_of known n) e (declaration_of (declarations m) n)
  where
    s : Scope
    s = scope_of known

    by_range : (x : Option Object) (a : Option Range)
        → IsTrue ((object_or_undeclared (option_map (with_known_addresses s a) x)).is_declared)
        → is_memory (object_or_undeclared (option_map (with_known_addresses s a) x)) ≡ false → a ≡ None
    by_range None a t h = absurd (false≢true t)
    by_range (Some o) None t h = refl
    by_range (Some o) (Some r) t h = absurd (false≢true (sym h))

    found : (x : Option Object) → x ≡ None → (y : Option Declaration)
        → IsTrue ((object_or_undeclared (first_of x (option_and_then (known_declaration s) y))).is_declared)
        → is_memory (object_or_undeclared (first_of x (option_and_then (known_declaration s) y))) ≡ false → addresses_in y ≡ None
    found (Some o) f y t h = cc
    found None f None t h = refl
    found None f (Some dd) t h = by_range (known_object s dd.signed dd.range) dd.addresses t h

-- ---- only parameters are known constants

HasEntry : Entries Object → Name → Type 0
HasEntry es n = IsTrue (is_some (entry_of es n))

entry_either : (es fs : Entries Object) (n : Name) → HasEntry (es ++ fs) n → HasEntry es n ⊎ HasEntry fs n
unfolding HasEntry
entry_either [] fs n h = inr h
entry_either (x ∷ es) fs n h = chosen (same_name x.0 n) (entry_either es fs n) h
  where
    chosen : (b : Bool) → (HasEntry (es ++ fs) n → HasEntry es n ⊎ HasEntry fs n) → IsTrue (is_some (cond b (Some x.1) (entry_of (es ++ fs) n)))
        → IsTrue (is_some (cond b (Some x.1) (entry_of es n))) ⊎ HasEntry fs n
    chosen true g f = inl refl
    chosen false g f = g f

one_entry : (m : Name) (x : Option Object) (n : Name) → HasEntry (known_entry m x) n → m ≡ n
unfolding HasEntry
one_entry m None n h = absurd (false≢true h)
one_entry m (Some o) n h = chosen (same_name m n) (λ e. same_is m n e) h
  where
    chosen : (b : Bool) → (b ≡ true → m ≡ n) → IsTrue (is_some (cond b (Some o) None)) → m ≡ n
    chosen true f t = f refl
    chosen false f t = absurd (false≢true t)

only_values : (d : ParameterDeclaration) (given : KnownOverrides) (vs : List (Name × Expression)) (known : Entries Object) (n : Name)
    → HasEntry (with_known_values d given vs known) n → HasEntry known n ⊎ IsAmong (value_names vs) n
only_values d given [] known n h = inl h
only_values d given (v ∷ vs) known n h =
    elim (only_values d given vs (known ++ known_entry v.0 (one_known_parameter (scope_of known) d v.1 (cond d.is_local None (given v.0)))) n h)
    as (λ _. HasEntry known n ⊎ IsAmong (value_names (v ∷ vs)) n) [
      | inl k ↦ new (entry_either known (known_entry v.0 (one_known_parameter (scope_of known) d v.1 (cond d.is_local None (given v.0)))) n k)
      | inr k ↦ inr (inr k)
    ]
  where
    new : HasEntry known n ⊎ HasEntry (known_entry v.0 (one_known_parameter (scope_of known) d v.1 (cond d.is_local None (given v.0)))) n
        → HasEntry known n ⊎ IsAmong (value_names (v ∷ vs)) n
    new (inl g) = inl g
    new (inr g) = inr (inl (one_entry v.0 (one_known_parameter (scope_of known) d v.1 (cond d.is_local None (given v.0))) n g))

only_parameters : (ds : List ParameterDeclaration) (given : KnownOverrides) (known : Entries Object) (n : Name)
    → HasEntry (with_known_parameters ds given known) n → HasEntry known n ⊎ IsAmong (parameter_names ds) n
only_parameters [] given known n h = inl h
only_parameters (d ∷ ds) given known n h =
    elim (only_parameters ds given (with_known_values d given d.values known) n h) as (λ _. HasEntry known n ⊎ IsAmong (parameter_names (d ∷ ds)) n) [
      | inl k ↦ first (only_values d given d.values known n k)
      | inr k ↦ inr (among_right (value_names d.values) (parameter_names ds) n k)
    ]
  where
    first : HasEntry known n ⊎ IsAmong (value_names d.values) n → HasEntry known n ⊎ IsAmong (parameter_names (d ∷ ds)) n
    first (inl g) = inl g
    first (inr g) = inr (among_left (value_names d.values) (parameter_names ds) n g)

pub among_test : (ns : List Name) (n : Name) → IsAmong ns n → IsTrue (is_among ns n)
among_test [] n h = absurd h
among_test (m ∷ ns) n (inl e) = first (same_name m n) (is_among ns n) (subst (λ k. same_name m k ≡ true) e (is_same m))
  where
    first : (a b : Bool) → a ≡ true → IsTrue (a || b)
    first true b f = refl
    first false b f = absurd (false≢true f)
among_test (m ∷ ns) n (inr h) = second (same_name m n) (is_among ns n) (among_test ns n h)
  where
    second : (a b : Bool) → IsTrue b → IsTrue (a || b)
    second true b f = refl
    second false b f = f

no_entry : (n : Name) → HasEntry [] n → ⊥
unfolding HasEntry
no_entry n h = false≢true h

known_parameter_name : (m : Module) (given : KnownOverrides) (n : Name) → HasEntry (known_constants m given) n → IsTrue (is_among (parameter_names (all_parameters m)) n)
known_parameter_name m given n h =
    elim (only_parameters (all_parameters m) given [] n h) as (λ _. IsTrue (is_among (parameter_names (all_parameters m)) n))
    [ inl k ↦ absurd (no_entry n k) | inr k ↦ among_test (parameter_names (all_parameters m)) n k ]

-- the constants of a module at a path, with those of its parameters that have values
known_are_constants : (source : Source) (top : Name) (path : List PathStep) (q : Placed) → known_at source top path ≡ Some q
    → (given : KnownOverrides) × (q.constants ≡ known_constants q.of_module given)
known_are_constants source top [] q e =
    let f = from_map (λ m. record { path = []; of_module = m; constants = known_constants m (λ n. None) }) (module_named source top) q e in
    ((λ n. None), subst (λ (x : Placed). x.constants ≡ known_constants x.of_module (λ n. None)) f.2 refl)
known_are_constants source top (u ∷ around) q e =
    let one = from_chain (known_below source u) (known_at source top around) q e in
    let two = from_chain (known_instance source (u ∷ one.0.path) (known_scope one.0)) (instance_reached one.0.of_module.items u) q one.2 in
    let f = from_map (λ m. record { path = u ∷ one.0.path; of_module = m; constants = known_constants m (known_overrides (known_scope one.0) two.0.parameters m) })
    (module_named source two.0.of_module) q two.2 in (
      known_overrides (known_scope one.0) two.0.parameters f.0,
      subst (λ (x : Placed). x.constants ≡ known_constants x.of_module (known_overrides (known_scope one.0) two.0.parameters f.0)) f.2 refl,
    )

-- ---- a wire that has an initial value

-- addresses stand in declarations of nets and variables alone
abbrev AreInNets : List Declaration → Type 0
AreInNets [] = Unit {0}
AreInNets (d ∷ ds) = ((d.addresses ≡ None) ⊎ (is_net_alone d ≡ true)) × AreInNets ds

nets_append : (ds es : List Declaration) → AreInNets ds → AreInNets es → AreInNets (ds ++ es)
nets_append [] es h g = g
nets_append (d ∷ ds) es h g = (h.0, nets_append ds es h.1 g)

nets_port : (d : PortDeclaration) (ns : List Name) → AreInNets (each_port d ns)
nets_port d [] = tt
nets_port d (n ∷ ns) = (inl refl, nets_port d ns)

nets_ports : (ds : List PortDeclaration) → AreInNets (port_declarations ds)
nets_ports [] = tt
nets_ports (d ∷ ds) = nets_append (each_port d d.names) (port_declarations ds) (nets_port d d.names) (nets_ports ds)

nets_wires : (signed : Bool) (r : Option Range) (ws : List (Name × Option Expression)) → AreInNets (wire_declarations signed r ws)
nets_wires signed r [] = tt
nets_wires signed r (w ∷ ws) = (inl refl, nets_wires signed r ws)

nets_variables : (signed : Bool) (r : Option Range) (vs : List (Name × Option Range)) → AreInNets (variable_declarations signed r vs)
nets_variables signed r [] = tt
nets_variables signed r (v ∷ vs) = (inr refl, nets_variables signed r vs)

nets_items : (items : List Item) → AreInNets (item_declarations items)
nets_items [] = tt
nets_items (port d ∷ items) = nets_append (each_port d d.names) (item_declarations items) (nets_port d d.names) (nets_items items)
nets_items (parameter d ∷ items) = nets_items items
nets_items (wires signed r ws ∷ items) = nets_append (wire_declarations signed r ws) (item_declarations items) (nets_wires signed r ws) (nets_items items)
nets_items (variables signed r vs ∷ items) = nets_append (variable_declarations signed r vs) (item_declarations items) (nets_variables signed r vs) (nets_items items)
nets_items (assign ts ∷ items) = nets_items items
nets_items (always es x ∷ items) = nets_items items
nets_items (instances m given is ∷ items) = nets_items items

nets_module : (m : Module) → AreInNets (declarations m)
nets_module m = nets_append (port_declarations (header_ports m.ports)) (item_declarations m.items) (nets_ports (header_ports m.ports)) (nets_items m.items)

one_name : (n : Name) (b : Bool) (m : Name) (ns : List Name) → count_of n (cond b (m ∷ []) [] ++ ns) ≡ cond b (cond (same_name m n) 1 0) 0 + count_of n ns
one_name n true m ns = refl
one_name n false m ns = omega arith

abbrev share : Bool → Bool → ℕ
share a b = cond a (cond b 1 0) 0

one_share : (a b : Bool) → a ≡ true → b ≡ true → share a b ≡ 1
one_share true true e f = refl
one_share true false e f = absurd (false≢true f)
one_share false b e f = absurd (false≢true e)

abbrev pub net_count : Name → List Declaration → ℕ
net_count n ds = count_of n (names_where is_net_alone ds)

net_counted : (n : Name) (d : Declaration) (ds : List Declaration) → net_count n (d ∷ ds) ≡ share (is_net_alone d) (same_name d.of_name n) + net_count n ds
net_counted n d ds = one_name n (is_net_alone d) d.of_name (names_where is_net_alone ds)

addresses_more : (b : Bool) (d : Declaration) (x : Option Declaration) → (b ≡ true → d.addresses ≡ None) → addresses_in x ≡ None
    → addresses_in (cond b (Some (and_later d x)) x) ≡ None
addresses_more true d None f e = f refl
addresses_more true d (Some y) f e = both d.addresses y.addresses (f refl) e
  where
    both : (a c : Option Range) → a ≡ None → c ≡ None → first_of a c ≡ None
    both None c g h = h
    both (Some r) c g h = cc
addresses_more false d x f e = e

not_alone : (d : Declaration) → is_net_alone d ≡ false → (d.addresses ≡ None) ⊎ (is_net_alone d ≡ true) → d.addresses ≡ None
not_alone d e (inl h) = h
not_alone d e (inr h) = absurd (false≢true (sym e ∙ h))

-- a name that no net alone has
none_left : (n : Name) (ds : List Declaration) → AreInNets ds → net_count n ds ≡ 0 → addresses_in (declaration_of ds n) ≡ None
none_left n [] h e = refl
none_left n (d ∷ ds) h e =
    let sum = net_counted n d ds in
    addresses_more (same_name d.of_name n) d (declaration_of ds n)
    (λ t. here t (split (is_net_alone d)))
    (none_left n ds h.1 (omega (arith, e, sum)))
  where
    here : same_name d.of_name n ≡ true → (is_net_alone d ≡ true) ⊎ (is_net_alone d ≡ false) → d.addresses ≡ None
    here t (inl g) =
        let one = one_share (is_net_alone d) (same_name d.of_name n) g t in
        let sum = net_counted n d ds in
        absurd (omega (arith, e, sum, one))
    here t (inr g) = not_alone d g h.0

-- some net alone of the name that has no addresses, and no other
record IsWire (n : Name) (w : Declaration) : Type 0 where
  is_named : w.of_name ≡ n
  is_alone : is_net_alone w ≡ true
  has_none : w.addresses ≡ None

at_least_one : (n : Name) (w : Declaration) (ds : List Declaration) → IsWire n w → IsAmong ds w → 1 ≤ net_count n ds
at_least_one n w [] is_wire h = absurd h
at_least_one n w (d ∷ ds) is_wire (inl e) =
    let named : same_name d.of_name n ≡ true = subst (λ (x : Declaration). same_name x.of_name n ≡ true) (sym e) (subst (λ m. same_name m n ≡ true) (sym is_wire.is_named) (is_same n)) in
    let alone : is_net_alone d ≡ true = subst (λ (x : Declaration). is_net_alone x ≡ true) (sym e) is_wire.is_alone in
    let one = one_share (is_net_alone d) (same_name d.of_name n) alone named in
    let sum = net_counted n d ds in
    omega (arith, sum, one)
at_least_one n w (d ∷ ds) is_wire (inr h) =
    let sum = net_counted n d ds in
    let more = at_least_one n w ds is_wire h in
    omega (arith, sum, more)

one_left : (n : Name) (w : Declaration) (ds : List Declaration) → AreInNets ds → IsWire n w → IsAmong ds w → net_count n ds ≤ 1
    → addresses_in (declaration_of ds n) ≡ None
one_left n w [] h is_wire k l = absurd k
one_left n w (d ∷ ds) h is_wire (inl e) l =
    let named : same_name d.of_name n ≡ true = subst (λ (x : Declaration). same_name x.of_name n ≡ true) (sym e) (subst (λ m. same_name m n ≡ true) (sym is_wire.is_named) (is_same n)) in
    let alone : is_net_alone d ≡ true = subst (λ (x : Declaration). is_net_alone x ≡ true) (sym e) is_wire.is_alone in
    let one = one_share (is_net_alone d) (same_name d.of_name n) alone named in
    let sum = net_counted n d ds in
    addresses_more (same_name d.of_name n) d (declaration_of ds n)
    (λ t. subst (λ (x : Declaration). x.addresses ≡ None) (sym e) is_wire.has_none)
    (none_left n ds h.1 (omega (arith, l, sum, one)))
one_left n w (d ∷ ds) h is_wire (inr k) l =
    let sum = net_counted n d ds in
    addresses_more (same_name d.of_name n) d (declaration_of ds n)
    (λ t. here t (split (is_net_alone d)))
    (one_left n w ds h.1 is_wire k (omega (arith, l, sum)))
  where
    here : same_name d.of_name n ≡ true → (is_net_alone d ≡ true) ⊎ (is_net_alone d ≡ false) → d.addresses ≡ None
    here t (inl g) =
        let one = one_share (is_net_alone d) (same_name d.of_name n) g t in
        let sum = net_counted n d ds in
        let more = at_least_one n w ds is_wire k in
        absurd (omega (arith, l, sum, one, more))
    here t (inr g) = not_alone d g h.0

-- ---- names that are declared once

count_joined : (n : Name) (ns ms : List Name) → count_of n (ns ++ ms) ≡ count_of n ns + count_of n ms
count_joined n [] ms = omega arith
count_joined n (k ∷ ns) ms = let f = count_joined n ns ms in omega (arith, f)

fewer : (n : Name) (ds : List Declaration) → net_count n ds ≤ count_of n (names_where (λ d. true) ds)
fewer n [] = omega arith
fewer n (d ∷ ds) =
    let l : count_of n (names_where is_net_alone ds) ≤ count_of n (names_where (λ e. true) ds) = fewer n ds in
    let one = one_name n (is_net_alone d) d.of_name (names_where is_net_alone ds) in
    let all = one_name n true d.of_name (names_where (λ e. true) ds) in
    rw (one, all) (less (is_net_alone d) (cond (same_name d.of_name n) 1 0) (count_of n (names_where is_net_alone ds)) (count_of n (names_where (λ e. true) ds)) l)
  where
    less : (b : Bool) (t x y : ℕ) → x ≤ y → cond b t 0 + x ≤ t + y
    less true t x y k = omega (arith, k)
    less false t x y k = omega (arith, k)

named_where : (ds : List Declaration) (w : Declaration) → IsAmong ds w → IsAmong (names_where (λ d. true) ds) w.of_name
named_where [] w h = absurd h
named_where (d ∷ ds) w (inl e) = inl (ap (λ (x : Declaration). x.of_name) e)
named_where (d ∷ ds) w (inr h) = inr (named_where ds w h)

pub one_net : (m : Module) (w : Declaration) → has_duplicate m ≡ false → IsAmong (declarations m) w → net_count w.of_name (declarations m) ≤ 1
one_net m w e h =
    let n : Name = w.of_name in
    let all : List Name = names_where (λ d. true) (declarations m) in
    let parameters : List Name = parameter_names (all_parameters m) in
    let is_true : is_once m n ≡ true =
    not_is_false (is_once m n)
    (any_false (λ k. not (is_once m k)) (declared_names m) n (first_false (list_any (λ k. not (is_once m k)) (declared_names m)) (has_repeated (port_order m)) e)
    (among_left (all ++ parameters) (all_instance_names m.items) n (among_left all parameters n (named_where (declarations m) w h)))) in
    let few : net_count n (declarations m) ≤ count_of n all = fewer n (declarations m) in
    let outer = count_joined n (all ++ parameters) (all_instance_names m.items) in
    let inner = count_joined n all parameters in
    let total : count_of n all ≤ count_of n (declared_names m) = omega (arith, outer, inner) in
    once (count_of n (declared_names m)) (count_of n (names_where is_bare_port (declarations m))) (net_count n (declarations m)) (omega (arith, few, total)) (plain is_true)
  where
    once : (a b c : ℕ) → c ≤ a → IsTrue (nat_le a 1 || ((a == 2) && (b == 1 && c == 1))) → c ≤ 1
    once a b c l t = grind (arith, nat_tests, l, t)

    plain : is_once m w.of_name ≡ true
        → IsTrue (nat_le (count_of w.of_name (declared_names m)) 1 || ((count_of w.of_name (declared_names m) == 2)
        && (count_of w.of_name (names_where is_bare_port (declarations m)) == 1 && net_count w.of_name (declarations m) == 1)))
    plain t = t

-- ---- what the rule on memories says of items

item_use : (source : Source) (s : Scope) (items : List Item) (i : Item) → IsAmong items i → (broken_module_items source s items).memory_use ≡ false
    → (broken_module_item source s i).memory_use ≡ false
item_use source s [] i h e = absurd h
item_use source s (x ∷ items) i (inl g) e =
    subst (λ (y : Item). (broken_module_item source s y).memory_use ≡ false) g
    (first_false (broken_module_item source s x).memory_use (broken_module_items source s items).memory_use e)
item_use source s (x ∷ items) i (inr h) e =
    item_use source s items i h (second_false (broken_module_item source s x).memory_use (broken_module_items source s items).memory_use e)

mutual
  not_written : (s : Scope) (t : Target) (n : Name) → writes_memory s t ≡ false → IsAmong (target_names t) n → is_memory (s n) ≡ false
  not_written s (place m x) n e (inl h) = subst (λ k. is_memory (s k) ≡ false) h e
  not_written s (place m x) n e (inr h) = absurd h
  not_written s (joined ts) n e h = none_written s ts n e h

  none_written : (s : Scope) (ts : Targets) (n : Name) → one_writes_memory s ts ≡ false → IsAmong (targets_names ts) n → is_memory (s n) ≡ false
  none_written s no_targets n e h = absurd h
  none_written s (target t ts) n e h =
      elim (among_either (target_names t) (targets_names ts) n h) as (λ _. is_memory (s n) ≡ false) [
        | inl k ↦ not_written s t n (first_false (writes_memory s t) (one_writes_memory s ts) e) k
        | inr k ↦ none_written s ts n (second_false (writes_memory s t) (one_writes_memory s ts) e) k
      ]

block_target : (s : Scope) (t : Target) (rest : Bool) → ((broken_block_target s false t).memory_use || rest) ≡ false → writes_memory s t ≡ false
block_target s t rest e =
    first_false (writes_memory s t) _ (first_false (broken_block_target s false t).memory_use rest e)

mutual
  statement_use : (s : Scope) (x : Statement) (n : Name) → (broken_statement s false x).memory_use ≡ false → IsAmong (assigned_names x) n
      → is_memory (s n) ≡ false
  statement_use s empty n e h = absurd h
  statement_use s (blocking t r) n e h = not_written s t n (block_target s t _ e) h
  statement_use s (nonblocking t r) n e h = not_written s t n (block_target s t _ e) h
  statement_use s (if_then c x) n e h = statement_use s x n (second_false _ (broken_statement s false x).memory_use e) h
  statement_use s (if_else c x y) n e h =
      let both : ((broken_statement s false x).memory_use || (broken_statement s false y).memory_use) ≡ false =
      second_false _ ((broken_statement s false x).memory_use || (broken_statement s false y).memory_use) e in
      elim (among_either (assigned_names x) (assigned_names y) n h) as (λ _. is_memory (s n) ≡ false) [
        | inl k ↦ statement_use s x n (first_false (broken_statement s false x).memory_use (broken_statement s false y).memory_use both) k
        | inr k ↦ statement_use s y n (second_false (broken_statement s false x).memory_use (broken_statement s false y).memory_use both) k
      ]
  statement_use s (case kind c items) n e h = arms_use s kind items n (second_false _ (broken_arms s false kind items).memory_use e) h
  statement_use s (block m xs) n e h = statements_use s xs n e h

  statements_use : (s : Scope) (xs : Statements) (n : Name) → (broken_statements s false xs).memory_use ≡ false → IsAmong (assigned_in_all xs) n
      → is_memory (s n) ≡ false
  statements_use s no_statements n e h = absurd h
  statements_use s (statement x xs) n e h =
      elim (among_either (assigned_names x) (assigned_in_all xs) n h) as (λ _. is_memory (s n) ≡ false) [
        | inl k ↦ statement_use s x n (first_false (broken_statement s false x).memory_use (broken_statements s false xs).memory_use e) k
        | inr k ↦ statements_use s xs n (second_false (broken_statement s false x).memory_use (broken_statements s false xs).memory_use e) k
      ]

  arms_use : (s : Scope) (kind : CaseKind) (items : CaseItems) (n : Name) → (broken_arms s false kind items).memory_use ≡ false → IsAmong (assigned_in_arms items) n
      → is_memory (s n) ≡ false
  arms_use s kind no_items n e h = absurd h
  arms_use s kind (arm es x items) n e h =
      let both : ((broken_statement s false x).memory_use || (broken_arms s false kind items).memory_use) ≡ false =
      second_false _ ((broken_statement s false x).memory_use || (broken_arms s false kind items).memory_use) e in
      elim (among_either (assigned_names x) (assigned_in_arms items) n h) as (λ _. is_memory (s n) ≡ false) [
        | inl k ↦ statement_use s x n (first_false (broken_statement s false x).memory_use (broken_arms s false kind items).memory_use both) k
        | inr k ↦ arms_use s kind items n (second_false (broken_statement s false x).memory_use (broken_arms s false kind items).memory_use both) k
      ]
  arms_use s kind (default_arm x items) n e h =
      elim (among_either (assigned_names x) (assigned_in_arms items) n h) as (λ _. is_memory (s n) ≡ false) [
        | inl k ↦ statement_use s x n (first_false (broken_statement s false x).memory_use (broken_arms s false kind items).memory_use e) k
        | inr k ↦ arms_use s kind items n (second_false (broken_statement s false x).memory_use (broken_arms s false kind items).memory_use e) k
      ]

assignments_use : (s : Scope) (ts : List (Target × Expression)) (a : Target × Expression) → (broken_assignments s ts).memory_use ≡ false → IsAmong ts a
    → writes_memory s a.0 ≡ false
assignments_use s [] a e h = absurd h
assignments_use s (t ∷ ts) a e (inl g) =
    subst (λ (b : Target × Expression). writes_memory s b.0 ≡ false) g
    (first_false (writes_memory s t.0) (broken_target s by_constants t.0).memory_use
    (first_false (writes_memory s t.0 || (broken_target s by_constants t.0).memory_use) _ (first_false _ (broken_assignments s ts).memory_use e)))
assignments_use s (t ∷ ts) a e (inr h) = assignments_use s ts a (second_false _ (broken_assignments s ts).memory_use e) h

connections_use : (s : Scope) (below : Option Module) (cs : List Connection) (c : Connection) → (broken_connections s below cs).memory_use ≡ false → IsAmong cs c
    → (broken_connection s below c).memory_use ≡ false
connections_use s below [] c e h = absurd h
connections_use s below (x ∷ cs) c e (inl g) =
    subst (λ (y : Connection). (broken_connection s below y).memory_use ≡ false) g
    (first_false (broken_connection s below x).memory_use (broken_connections s below cs).memory_use e)
connections_use s below (x ∷ cs) c e (inr h) =
    connections_use s below cs c (second_false (broken_connection s below x).memory_use (broken_connections s below cs).memory_use e) h

instances_use : (s : Scope) (below : Option Module) (is : List (Name × Connections)) (i : Name × Connections) → (broken_instances s below is).memory_use ≡ false
    → IsAmong is i → (broken_connections s below (instance_connections i.0 i.1)).memory_use ≡ false
instances_use s below [] i e h = absurd h
instances_use s below (x ∷ is) i e (inl g) =
    subst (λ (y : Name × Connections). (broken_connections s below (instance_connections y.0 y.1)).memory_use ≡ false) g
    (first_false (broken_connections s below (instance_connections x.0 x.1)).memory_use (broken_instances s below is).memory_use e)
instances_use s below (x ∷ is) i e (inr h) =
    instances_use s below is i (second_false (broken_connections s below (instance_connections x.0 x.1)).memory_use (broken_instances s below is).memory_use e) h

output_use : (s : Scope) (below : Module) (c : Connection) (t : Target) → (broken_connection s (Some below) c).memory_use ≡ false
    → is_output (port_direction below (port_meant below c.to_port)) ≡ true → as_target c.expression ≡ Some t → writes_memory s t ≡ false
output_use s below c t e is_out is_target =
    let one : (broken_output s c.expression (as_target c.expression)).memory_use ≡ false =
    subst (λ b. (cond b (broken_output s c.expression (as_target c.expression)) (broken s anywhere c.expression)).memory_use ≡ false) is_out e in
    first_false (writes_memory s t) (broken_target s by_constants t).memory_use
    (subst (λ x. (broken_output s c.expression x).memory_use ≡ false) is_target one)

declaration_use : (s : Scope) (m : Module) (ds : List Declaration) (n : Name) → (broken_declarations s m ds).memory_use ≡ false → IsTrue (is_declared_among ds n)
    → (is_some (entry_of (port_directions m) n) && is_memory (s n)) ≡ false
declaration_use s m [] n e t = absurd (false≢true t)
declaration_use s m (d ∷ ds) n e t =
    chosen (same_name d.of_name n) (λ g. same_is d.of_name n g)
    (declaration_use s m ds n (second_false (is_some (entry_of (port_directions m) d.of_name) && is_memory (s d.of_name)) (broken_declarations s m ds).memory_use e)) t
  where
    chosen : (b : Bool) → (b ≡ true → d.of_name ≡ n) → (IsTrue (is_declared_among ds n) → (is_some (entry_of (port_directions m) n) && is_memory (s n)) ≡ false)
        → IsTrue (b || is_declared_among ds n) → (is_some (entry_of (port_directions m) n) && is_memory (s n)) ≡ false
    chosen true f g h =
        subst (λ k. (is_some (entry_of (port_directions m) k) && is_memory (s k)) ≡ false) (f refl)
        (first_false (is_some (entry_of (port_directions m) d.of_name) && is_memory (s d.of_name)) (broken_declarations s m ds).memory_use e)
    chosen false f g h = g h

-- ---- where blocks and assignments stand

block_item : (items : List Item) (x : Statement) → IsAmong (combinational_blocks items) x
    → (es : Events) × IsAmong items (always es x) × (is_clocked es ≡ false)
block_item [] x h = absurd h
block_item (port d ∷ items) x h = let r = block_item items x h in (r.0, inr r.1, r.2)
block_item (parameter d ∷ items) x h = let r = block_item items x h in (r.0, inr r.1, r.2)
block_item (wires signed q ws ∷ items) x h = let r = block_item items x h in (r.0, inr r.1, r.2)
block_item (variables signed q vs ∷ items) x h = let r = block_item items x h in (r.0, inr r.1, r.2)
block_item (assign ts ∷ items) x h = let r = block_item items x h in (r.0, inr r.1, r.2)
block_item (always es y ∷ items) x h = chosen (is_clocked es) refl (λ k. block_item items x k) h
  where
    chosen : (b : Bool) → is_clocked es ≡ b → (IsAmong (combinational_blocks items) x → (fs : Events) × IsAmong items (always fs x) × (is_clocked fs ≡ false))
        → IsAmong (cond b (combinational_blocks items) (y ∷ combinational_blocks items)) x
        → (fs : Events) × IsAmong (always es y ∷ items) (always fs x) × (is_clocked fs ≡ false)
    chosen true e f k = let r = f k in (r.0, inr r.1, r.2)
    chosen false e f (inl k) = (es, inl (ap (always es) k), e)
    chosen false e f (inr k) = let r = f k in (r.0, inr r.1, r.2)
block_item (instances m given is ∷ items) x h = let r = block_item items x h in (r.0, inr r.1, r.2)

-- an assignment stands in an item of them, or its target is a wire
data AssignmentItem (items : List Item) (a : Target × Expression) : Type 0 where
  in_assign : (ts : List (Target × Expression)) → IsAmong items (assign ts) → IsAmong ts a → AssignmentItem items a
  in_wires : (w : Declaration) → IsAmong (item_declarations items) w → (n : Name) → IsWire n w
      → ((m : Name) → IsAmong (target_names a.0) m → m ≡ n) → AssignmentItem items a

assignment_later : (i : Item) (items : List Item) (ds : List Declaration) (a : Target × Expression) → item_declarations (i ∷ items) ≡ ds ++ item_declarations items
    → AssignmentItem items a → AssignmentItem (i ∷ items) a
assignment_later i items ds a e (in_assign ts h k) = in_assign ts (inr h) k
assignment_later i items ds a e (in_wires w h n is_wire f) =
    in_wires w (subst (λ es. IsAmong es w) (sym e) (among_right ds (item_declarations items) w h)) n is_wire f

wire_of : (signed : Bool) (r : Option Range) (ws : List (Name × Option Expression)) (a : Target × Expression) → IsAmong (wire_assignments ws) a
    → (w : Declaration) × (n : Name) × IsAmong (wire_declarations signed r ws) w × IsWire n w × ((m : Name) → IsAmong (target_names a.0) m → m ≡ n)
wire_of signed r [] a h = absurd h
wire_of signed r (w ∷ ws) a h = found w.1 (λ g. wire_of signed r ws a g) h
  where
    found : (x : Option Expression)
        → (IsAmong (wire_assignments ws) a → (y : Declaration) × (n : Name) × IsAmong (wire_declarations signed r ws) y × IsWire n y
        × ((m : Name) → IsAmong (target_names a.0) m → m ≡ n))
        → IsAmong (wire_assignment w.0 x ++ wire_assignments ws) a
        → (y : Declaration) × (n : Name) × IsAmong (wire_declarations signed r (w ∷ ws)) y × IsWire n y × ((m : Name) → IsAmong (target_names a.0) m → m ≡ n)
    found None f g = let z = f g in (z.0, z.1, inr z.2, z.3, z.4)
    found (Some e) f (inl g) = (
      record { of_name = w.0; direction = None; kind = Some wire; signed = signed; range = r; addresses = None },
      w.0,
      inl refl,
      record { is_named = refl; is_alone = refl; has_none = refl },
      λ m k. only m (subst (λ (b : Target × Expression). IsAmong (target_names b.0) m) (sym g) k),
    )
      where
        only : (m : Name) → IsAmong (w.0 ∷ []) m → m ≡ w.0
        only m (inl i) = sym i
        only m (inr i) = absurd i
    found (Some e) f (inr g) = let z = f g in (z.0, z.1, inr z.2, z.3, z.4)

assignment_item : (items : List Item) (a : Target × Expression) → IsAmong (assignments items) a → AssignmentItem items a
assignment_item [] a h = absurd h
assignment_item (port d ∷ items) a h = assignment_later (port d) items (each_port d d.names) a refl (assignment_item items a h)
assignment_item (parameter d ∷ items) a h = assignment_later (parameter d) items [] a refl (assignment_item items a h)
assignment_item (wires signed r ws ∷ items) a h =
    elim (among_either (wire_assignments ws) (assignments items) a h) as (λ _. AssignmentItem (wires signed r ws ∷ items) a) [
      | inl k ↦ let z = wire_of signed r ws a k in
          in_wires z.0 (among_left (wire_declarations signed r ws) (item_declarations items) z.0 z.2) z.1 z.3 z.4
      | inr k ↦ assignment_later (wires signed r ws) items (wire_declarations signed r ws) a refl (assignment_item items a k)
    ]
assignment_item (variables signed r vs ∷ items) a h =
    assignment_later (variables signed r vs) items (variable_declarations signed r vs) a refl (assignment_item items a h)
assignment_item (assign ts ∷ items) a h =
    elim (among_either ts (assignments items) a h) as (λ _. AssignmentItem (assign ts ∷ items) a) [
      | inl k ↦ in_assign ts (inl refl) k
      | inr k ↦ assignment_later (assign ts) items [] a refl (assignment_item items a k)
    ]
assignment_item (always es x ∷ items) a h = assignment_later (always es x) items [] a refl (assignment_item items a h)
assignment_item (instances m given is ∷ items) a h = assignment_later (instances m given is) items [] a refl (assignment_item items a h)

-- ---- in an accepted design

-- the module that an instance connects to, with the item in which it stands
pub record StandsIn (d : Design) (p : Placed) (c : Connection) (below : Placed) : Type 0 where
  pub place : Belongs p.of_module.items c
  pub is_below : module_named d.source place.of_module ≡ Some below.of_module

module _ (d : Design) (accepted : IsAcceptedButForLoops d) where
  pub no_duplicate : (p : Placed) → IsPlacedIn d p → has_duplicate p.of_module ≡ false
  no_duplicate p at =
      not_true (has_duplicate p.of_module) (λ t. accepted duplicate_name (λ e. cc) (HasDuplicateName.names p.of_module (stands_in d p.path p at) t))

  pub stands_below : (p : Placed) → IsPlacedIn d p → (c : Connection) → IsAmong (port_connections p.of_module.items) c → (below : Placed)
      → at_path d (instance_step c.of_instance ∷ p.path) ≡ Some below → StandsIn d p c below
  stands_below p at c stands below is_below =
      let b : Belongs p.of_module.items c = belongs p.of_module.items c stands in
      let s : StepsTo d (instance_step c.of_instance) p.path below = step_of d (instance_step c.of_instance) p.path below is_below in
      let outer : p ≡ s.outer = some_same (sym at ∙ s.is_outer) in
      let reached : instance_named p.of_module.items c.of_instance ≡ Some s.instance =
      subst (λ (q : Placed). instance_named q.of_module.items c.of_instance ≡ Some s.instance) (sym outer) s.is_reached in
      let name : s.instance.of_module ≡ b.of_module = one_module p.of_module c s.instance (no_duplicate p at) b reached in
      record {
        place = b;
        is_below = subst (λ k. module_named d.source k ≡ Some below.of_module) name
            (module_of_instance d.source (instance_step c.of_instance ∷ s.outer.path) (placed_scope s.outer) s.instance below s.is_placed);
      }
    where
      some_same : {A : Type 0} {x y : A} → Some x ≡ Some y → x ≡ y
      some_same e = cc

  module _ (ranges : RangesHaveValues d) (p : Placed) (at : IsPlacedIn d p) where
    known : (q : Placed) × (known_at d.source d.top p.path ≡ Some q) × (q.of_module ≡ p.of_module)
    known = is_known d p.path p at

    -- what is no memory by the rules on constants is none
    no_memory : (n : Name) → IsDeclared p n → is_memory (known_scope known.0 n) ≡ false → is_memory (placed_scope p n) ≡ false
    unfolding HasEntry
    no_memory n declared e =
        by_entry (split (is_some (entry_of known.0.constants n)))
      where
        constants : (given : KnownOverrides) × (known.0.constants ≡ known_constants known.0.of_module given)
        constants = known_are_constants d.source d.top p.path known.0 known.1

        by_entry : (is_some (entry_of known.0.constants n) ≡ true) ⊎ (is_some (entry_of known.0.constants n) ≡ false) → is_memory (placed_scope p n) ≡ false
        by_entry (inl t) =
            no_constant_memory d p.path p at n
            (parameter_number d p.path p at n
            (subst (λ m. IsTrue (is_among (parameter_names (all_parameters m)) n)) known.2
            (known_parameter_name known.0.of_module constants.0 n (subst (λ es. IsTrue (is_some (entry_of es n))) constants.1 t))))
        by_entry (inr t) =
            without_addresses p.of_module p.constants n (λ o f. ((placed_constants d p.path p at).numbers n o f).1)
            (subst (λ m. addresses_in (declaration_of (declarations m) n) ≡ None) known.2
            (known_addresses known.0.of_module known.0.constants n (nothing (entry_of known.0.constants n) t)
            (ranges p.path known.0 n known.1 (subst (λ m. IsTrue (is_declared_among (declarations m) n)) (sym known.2) declared)) e))
          where
            nothing : {A : Type 0} (x : Option A) → is_some x ≡ false → x ≡ None
            nothing None f = refl
            nothing (Some y) f = absurd (false≢true (sym f))

    unused : ((broken_declarations (known_scope known.0) p.of_module (declarations p.of_module)).memory_use
        || (broken_module_items d.source (known_scope known.0) p.of_module.items).memory_use) ≡ false
    unused =
        subst (λ m. ((broken_declarations (known_scope known.0) m (declarations m)).memory_use || (broken_module_items d.source (known_scope known.0) m.items).memory_use) ≡ false) known.2
        (second_false _
        ((broken_declarations (known_scope known.0) known.0.of_module (declarations known.0.of_module)).memory_use
        || (broken_module_items d.source (known_scope known.0) known.0.of_module.items).memory_use)
        (not_true (broken_module d.source known.0).memory_use (λ t. accepted memory_use (λ e. cc) (record { path = p.path; place = known.0; is_placed = known.1; is_so = t }))))

    item_unused : (i : Item) → IsAmong p.of_module.items i → (broken_module_item d.source (known_scope known.0) i).memory_use ≡ false
    item_unused i h =
        item_use d.source (known_scope known.0) p.of_module.items i h
        (second_false (broken_declarations (known_scope known.0) p.of_module (declarations p.of_module)).memory_use
        (broken_module_items d.source (known_scope known.0) p.of_module.items).memory_use unused)

    pub block_memory : (x : Statement) (n : Name) → IsAmong (combinational_blocks p.of_module.items) x → IsAmong (assigned_names x) n → IsDeclared p n
        → is_memory (placed_scope p n) ≡ false
    block_memory x n h k declared =
        let r = block_item p.of_module.items x h in
        no_memory n declared
        (statement_use (known_scope known.0) x n
        (subst (λ c. (broken_statement (known_scope known.0) c x).memory_use ≡ false) r.2
        (second_false _ (broken_statement (known_scope known.0) (is_clocked r.0) x).memory_use (item_unused (always r.0 x) r.1))) k)

    pub assignment_memory : (a : Target × Expression) (n : Name) → IsAmong (assignments p.of_module.items) a → IsAmong (target_names a.0) n → IsDeclared p n
        → is_memory (placed_scope p n) ≡ false
    assignment_memory a n h k declared = by_item (assignment_item p.of_module.items a h)
      where
        by_item : AssignmentItem p.of_module.items a → is_memory (placed_scope p n) ≡ false
        by_item (in_assign ts i g) =
            no_memory n declared
            (not_written (known_scope known.0) a.0 n (assignments_use (known_scope known.0) ts a (item_unused (assign ts) i) g) k)
        by_item (in_wires w i m is_wire f) =
            let among : IsAmong (declarations p.of_module) w = among_right (port_declarations (header_ports p.of_module.ports)) (item_declarations p.of_module.items) w i in
            without_addresses p.of_module p.constants n (λ o g. ((placed_constants d p.path p at).numbers n o g).1)
            (subst (λ j. addresses_in (declaration_of (declarations p.of_module) j) ≡ None) (sym (f n k))
            (one_left m w (declarations p.of_module) (nets_module p.of_module) is_wire among
            (subst (λ j. net_count j (declarations p.of_module) ≤ 1) is_wire.is_named (one_net p.of_module w (no_duplicate p at) among))))

    pub output_memory : (c : Connection) (below : Placed) (m : Name) (t : Target) (n : Name) → IsAmong (port_connections p.of_module.items) c
        → IsConnectedTo d p c below m output → as_target c.expression ≡ Some t → IsAmong (target_names t) n → IsDeclared p n → is_memory (placed_scope p n) ≡ false
    output_memory c below m t n h connected e k declared =
        let s : StandsIn d p c below = stands_below p at c h below connected.is_below in
        let b : Belongs p.of_module.items c = s.place in
        let all : (broken_instances (known_scope known.0) (Some below.of_module) b.each).memory_use ≡ false =
        subst (λ x. (broken_instances (known_scope known.0) x b.each).memory_use ≡ false) s.is_below
        (second_false _ (broken_instances (known_scope known.0) (module_named d.source b.of_module) b.each).memory_use
        (item_unused (instances b.of_module b.given b.each) b.is_item)) in
        no_memory n declared
        (not_written (known_scope known.0) t n
        (output_use (known_scope known.0) below.of_module c t
        (connections_use (known_scope known.0) (Some below.of_module) (instance_connections c.of_instance b.connections) c
        (instances_use (known_scope known.0) (Some below.of_module) b.each (c.of_instance, b.connections) all b.is_instance) b.is_one)
        (is_out connected.is_meant connected.is_port) e) k)
      where
        is_out : port_meant below.of_module c.to_port ≡ Some m → HasPort below.of_module m output
            → is_output (port_direction below.of_module (port_meant below.of_module c.to_port)) ≡ true
        is_out f g = subst (λ x. is_output (port_direction below.of_module x) ≡ true) (sym f) (ap is_output g)

    pub port_memory : (n : Name) (way : Direction) → HasPort p.of_module n way → IsDeclared p n → is_memory (placed_scope p n) ≡ false
    port_memory n way h declared =
        no_memory n declared
        (other (is_some (entry_of (port_directions p.of_module) n)) (is_memory (known_scope known.0 n)) (ap is_some h)
        (declaration_use (known_scope known.0) p.of_module (declarations p.of_module) n
        (first_false (broken_declarations (known_scope known.0) p.of_module (declarations p.of_module)).memory_use
        (broken_module_items d.source (known_scope known.0) p.of_module.items).memory_use unused) declared))
      where
        other : (a b : Bool) → a ≡ true → (a && b) ≡ false → b ≡ false
        other true b e f = f
        other false b e f = absurd (false≢true e)
