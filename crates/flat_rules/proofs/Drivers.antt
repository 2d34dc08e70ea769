-- The drivers of a flat design break no rule.
use Rattle.std.proofs.Common.{◌≡◌, ℕ, ◌≤◌, ◌<◌, ◌^◌, nat_lt, nat_le, arith, Bool, true, false, cond, ◌&&◌, List, [], ◌∷◌, ◌++◌, inl, inr, refl, sym, ap, ◌∙◌, subst, Option, Some, None, IfSome, IsTrue}
use Rattle.std.specs.Prelude.{is_some, option_map}
use Rattle.std.proofs.lemmas.Bool.{false≢true}
use Rattle.std.proofs.lemmas.Bool.Decides.{nat_tests}
use Rattle.wb_values.specs.Value.{Name, entry_of}
use Rattle.wb_values.specs.Choice.{first_of}
use Rattle.verilog_trees.specs.Syntax.{Expression, Target, Statement, Direction, input, output, Range, Events, Connections, Item, port, parameter, wires, variables, assign, always, instances, Module}
use Rattle.verilog_meaning.specs.Expression.{Object, Scope, object_or_undeclared, scope_of, object_width, is_memory}
use Rattle.verilog_meaning.specs.Register.{is_clocked, clocked_blocks, combinational_blocks}
use Rattle.verilog_meaning.specs.Hierarchy.{ranged_object, bounds_of, Declaration, declarations, declaration_of, declared_object, all_parameters, instance_step, Placed, placed_scope, module_named, instance_named}
use Rattle.verilog_meaning.specs.Settled.{Design, at_path, IsPlacedIn, wire_assignment, wire_assignments, assignments, as_target, whole_of, whole_name, Connection, instance_connections, port_connections, port_meant, port_directions, HasPort, IsConnectedTo}
use Rattle.verilog_rules.specs.Expression.{also, is_unbroken, Position, anywhere, broken}
use Rattle.verilog_designs.specs.Names.{parameter_names}
use Rattle.verilog_designs.specs.Ports.{is_output, port_direction}
use Rattle.verilog_designs.specs.Expressions.{by_constants, broken_net_target, broken_statement, broken_events, broken_range, broken_assignments, broken_initial_values, broken_connection, broken_output, broken_connections, broken_instances, broken_overrides, broken_module_item}
use Rattle.verilog_designs.specs.Accepted.{HasUndeclared}
use Rattle.verilog_unique.proofs.Descent.{IsAmong, among_either, among_contains}
use Rattle.verilog_unique.proofs.Paths.{StepsTo, step_of}
use Rattle.verilog_unique.proofs.Standing.{module_of_instance}
use Rattle.verilog_unique.proofs.Instances.{Belongs, belongs, one_module}
use Rattle.verilog_unique.proofs.Ports.{port_is_declared}
use Rattle.verilog_exists.proofs.Rules.{Good, good_left, good_right}
use Rattle.verilog_renamed.specs.Renamed.{renamed_expression, renamed_target, renamed_statement}
use Rattle.verilog_renamed.specs.EachName.{EachIn, EachInTarget, EachInStatement}
use Rattle.verilog_renamed.proofs.EachName.{each_follows, target_follows, statement_follows}
use Rattle.v_value.specs.Narrow.{IsNarrowObject}
use Rattle.flat_designs.specs.Flat.{IsNameOf, Naming, IsLink, to_input, of_output, IsFlatLink, of_module, of_connection, IsFlatBlock, of_block, IsFlatClocked, of_clocked, IsFlat}
use Rattle.flat_designs.proofs.Known.{in_assigned, in_right_side, in_block, in_clocked, in_connection, in_output}
use Rattle.flat_designs.proofs.Settled.{leads_to, target_known, expression_known, statement_known}
use Rattle.flat_rules.specs.Sound.{HasSoundModules, HasObjectInBounds}
use Rattle.flat_rules.specs.Drivers.{BreaksNothing, LinkBreaksNothing, FlatDriversBreakNothing, FlatObjectsAreInBounds, FlatScopesAreNarrow}
use Rattle.flat_rules.proofs.SameRules.{expressions_break_the_same, targets_break_the_same, statements_break_the_same}
use Rattle.flat_rules.proofs.Real.{entry_is, undeclared_narrow}
use Rattle.flat_rules.proofs.Judged.{AreGoodParts, good_item, test_among}
use Rattle.flat_rules.proofs.Placed.{IsSound, is_sound, once, declaration_good, declared_something}
use Rattle.flat_rules.proofs.Wires.{addresses_in, wire_unaddressed}
use Rattle.flat_rules.proofs.Declared.{Known, unbroken, expression_declared, net_declared, statement_declared}

-- ---- where drivers stand

-- an assignment stands in an item of assignments, or gives a wire its value
data AssignedBy (items : List Item) (a : Target × Expression) : Type 0 where
  by_assign : (ts : List (Target × Expression)) → IsAmong items (assign ts) → IsAmong ts a → AssignedBy items a
  by_wire : (signed : Bool) (r : Option Range) (ws : List (Name × Option Expression)) (n : Name) (e : Expression) → IsAmong items (wires signed r ws)
      → IsAmong ws (n, Some e) → (whole_of n, e) ≡ a → AssignedBy items a

assigned_later : (i : Item) (items : List Item) (a : Target × Expression) → AssignedBy items a → AssignedBy (i ∷ items) a
assigned_later i items a (by_assign ts h k) = by_assign ts (inr h) k
assigned_later i items a (by_wire signed r ws n e h k is) = by_wire signed r ws n e (inr h) k is

record GivesWire (ws : List (Name × Option Expression)) (a : Target × Expression) : Type 0 where
  of_name : Name
  value : Expression
  is_wire : IsAmong ws (of_name, Some value)
  is_a : (whole_of of_name, value) ≡ a

gives_wire : (ws : List (Name × Option Expression)) (a : Target × Expression) → IsAmong (wire_assignments ws) a → GivesWire ws a
gives_wire [] a h = absurd h
gives_wire ((n, x) ∷ ws) a h = found x (λ g. gives_wire ws a g) h
  where
    found : (y : Option Expression) → (IsAmong (wire_assignments ws) a → GivesWire ws a) → IsAmong (wire_assignment n y ++ wire_assignments ws) a
        → GivesWire ((n, y) ∷ ws) a
    found None f g = let z = f g in record { of_name = z.of_name; value = z.value; is_wire = inr z.is_wire; is_a = z.is_a }
    found (Some e) f (inl g) = record { of_name = n; value = e; is_wire = inl refl; is_a = g }
    found (Some e) f (inr g) = let z = f g in record { of_name = z.of_name; value = z.value; is_wire = inr z.is_wire; is_a = z.is_a }

assigned_by : (items : List Item) (a : Target × Expression) → IsAmong (assignments items) a → AssignedBy items a
assigned_by [] a h = absurd h
assigned_by (port d ∷ items) a h = assigned_later (port d) items a (assigned_by items a h)
assigned_by (parameter d ∷ items) a h = assigned_later (parameter d) items a (assigned_by items a h)
assigned_by (wires signed r ws ∷ items) a h =
    elim (among_either (wire_assignments ws) (assignments items) a h) as (λ _. AssignedBy (wires signed r ws ∷ items) a) [
      | inl k ↦ let z = gives_wire ws a k in by_wire signed r ws z.of_name z.value (inl refl) z.is_wire z.is_a
      | inr k ↦ assigned_later (wires signed r ws) items a (assigned_by items a k)
    ]
assigned_by (variables signed r vs ∷ items) a h = assigned_later (variables signed r vs) items a (assigned_by items a h)
assigned_by (assign ts ∷ items) a h =
    elim (among_either ts (assignments items) a h) as (λ _. AssignedBy (assign ts ∷ items) a) [
      | inl k ↦ by_assign ts (inl refl) k
      | inr k ↦ assigned_later (assign ts) items a (assigned_by items a k)
    ]
assigned_by (always es x ∷ items) a h = assigned_later (always es x) items a (assigned_by items a h)
assigned_by (instances m given is ∷ items) a h = assigned_later (instances m given is) items a (assigned_by items a h)

-- a block stands in an item of its kind
record IsBlockIn (items : List Item) (x : Statement) (c : Bool) : Type 0 where
  events : Events
  is_item : IsAmong items (always events x)
  kind : is_clocked events ≡ c

block_later : (i : Item) (items : List Item) (x : Statement) (c : Bool) → IsBlockIn items x c → IsBlockIn (i ∷ items) x c
block_later i items x c h = record { events = h.events; is_item = inr h.is_item; kind = h.kind }

comb_in : (items : List Item) (x : Statement) → IsAmong (combinational_blocks items) x → IsBlockIn items x false
comb_in [] x h = absurd h
comb_in (port d ∷ items) x h = block_later (port d) items x false (comb_in items x h)
comb_in (parameter d ∷ items) x h = block_later (parameter d) items x false (comb_in items x h)
comb_in (wires signed r ws ∷ items) x h = block_later (wires signed r ws) items x false (comb_in items x h)
comb_in (variables signed r vs ∷ items) x h = block_later (variables signed r vs) items x false (comb_in items x h)
comb_in (assign ts ∷ items) x h = block_later (assign ts) items x false (comb_in items x h)
comb_in (always es y ∷ items) x h = chosen (is_clocked es) refl (comb_in items x) h
  where
    chosen : (b : Bool) → is_clocked es ≡ b → (IsAmong (combinational_blocks items) x → IsBlockIn items x false)
        → IsAmong (cond b (combinational_blocks items) (y ∷ combinational_blocks items)) x → IsBlockIn (always es y ∷ items) x false
    chosen true e f g = block_later (always es y) items x false (f g)
    chosen false e f (inl g) = record { events = es; is_item = inl (ap (always es) g); kind = e }
    chosen false e f (inr g) = block_later (always es y) items x false (f g)
comb_in (instances m given is ∷ items) x h = block_later (instances m given is) items x false (comb_in items x h)

clocked_in : (items : List Item) (x : Statement) → IsAmong (clocked_blocks items) x → IsBlockIn items x true
clocked_in [] x h = absurd h
clocked_in (port d ∷ items) x h = block_later (port d) items x true (clocked_in items x h)
clocked_in (parameter d ∷ items) x h = block_later (parameter d) items x true (clocked_in items x h)
clocked_in (wires signed r ws ∷ items) x h = block_later (wires signed r ws) items x true (clocked_in items x h)
clocked_in (variables signed r vs ∷ items) x h = block_later (variables signed r vs) items x true (clocked_in items x h)
clocked_in (assign ts ∷ items) x h = block_later (assign ts) items x true (clocked_in items x h)
clocked_in (always es y ∷ items) x h = chosen (is_clocked es) refl (clocked_in items x) h
  where
    chosen : (b : Bool) → is_clocked es ≡ b → (IsAmong (clocked_blocks items) x → IsBlockIn items x true)
        → IsAmong (cond b (y ∷ clocked_blocks items) (clocked_blocks items)) x → IsBlockIn (always es y ∷ items) x true
    chosen true e f (inl g) = record { events = es; is_item = inl (ap (always es) g); kind = e }
    chosen true e f (inr g) = block_later (always es y) items x true (f g)
    chosen false e f g = block_later (always es y) items x true (f g)
clocked_in (instances m given is ∷ items) x h = block_later (instances m given is) items x true (clocked_in items x h)

-- ---- rules on one of a list

some_same : {A : Type 0} {x y : A} → Some x ≡ Some y → x ≡ y
some_same e = cc

one_good : (s : Scope) (ts : List (Target × Expression)) (a : Target × Expression) → IsAmong ts a → Good (broken_assignments s ts)
    → Good (broken_net_target s by_constants a.0) × Good (broken s anywhere a.1)
one_good s [] a h g = absurd h
one_good s (t ∷ ts) a (inl e) g =
    subst (λ (b : Target × Expression). Good (broken_net_target s by_constants b.0) × Good (broken s anywhere b.1)) e
    (let k = good_left (also (broken_net_target s by_constants t.0) (broken s anywhere t.1)) (broken_assignments s ts) g in
    (good_left (broken_net_target s by_constants t.0) (broken s anywhere t.1) k, good_right (broken_net_target s by_constants t.0) (broken s anywhere t.1) k))
one_good s (t ∷ ts) a (inr h) g =
    one_good s ts a h (good_right (also (broken_net_target s by_constants t.0) (broken s anywhere t.1)) (broken_assignments s ts) g)

wire_good : (s : Scope) (ws : List (Name × Option Expression)) (n : Name) (e : Expression) → IsAmong ws (n, Some e) → Good (broken_initial_values s ws)
    → Good (broken s anywhere e)
wire_good s [] n e h g = absurd h
wire_good s ((k, None) ∷ ws) n e (inl is) g = absurd (false≢true (ap (λ (z : Name × Option Expression). is_some z.1) is))
wire_good s ((k, None) ∷ ws) n e (inr h) g = wire_good s ws n e h g
wire_good s ((k, Some x) ∷ ws) n e (inl is) g =
    subst (λ y. Good (broken s anywhere y)) (some_same (ap (λ (z : Name × Option Expression). z.1) is)) (good_left (broken s anywhere x) (broken_initial_values s ws) g)
wire_good s ((k, Some x) ∷ ws) n e (inr h) g = wire_good s ws n e h (good_right (broken s anywhere x) (broken_initial_values s ws) g)

connection_good : (s : Scope) (below : Option Module) (cs : List Connection) (c : Connection) → IsAmong cs c → Good (broken_connections s below cs)
    → Good (broken_connection s below c)
connection_good s below [] c h g = absurd h
connection_good s below (x ∷ cs) c (inl e) g =
    subst (λ (y : Connection). Good (broken_connection s below y)) e (good_left (broken_connection s below x) (broken_connections s below cs) g)
connection_good s below (x ∷ cs) c (inr h) g =
    connection_good s below cs c h (good_right (broken_connection s below x) (broken_connections s below cs) g)

instance_good : (s : Scope) (below : Option Module) (is : List (Name × Connections)) (i : Name × Connections) → IsAmong is i → Good (broken_instances s below is)
    → Good (broken_connections s below (instance_connections i.0 i.1))
instance_good s below [] i h g = absurd h
instance_good s below (x ∷ is) i (inl e) g =
    subst (λ (y : Name × Connections). Good (broken_connections s below (instance_connections y.0 y.1))) e
    (good_left (broken_connections s below (instance_connections x.0 x.1)) (broken_instances s below is) g)
instance_good s below (x ∷ is) i (inr h) g =
    instance_good s below is i h (good_right (broken_connections s below (instance_connections x.0 x.1)) (broken_instances s below is) g)

-- ---- the whole of a name

whole_target : (s : Scope) (p : Position) (n : Name) → IsTrue ((s n).is_declared) → nat_lt 128 (object_width (s n)) ≡ false → is_memory (s n) ≡ false
    → is_unbroken (broken_net_target s p (whole_of n)) ≡ true
whole_target s p n e w m = rw (e, w, m) refl

whole_value : (s : Scope) (n : Name) → IsTrue ((s n).is_declared) → nat_lt 128 (object_width (s n)) ≡ false → is_memory (s n) ≡ false
    → is_unbroken (broken s anywhere (whole_name n)) ≡ true
whole_value s n e w m = rw (e, w, m) refl

not_wide : (w : ℕ) → w ≤ 128 → nat_lt 128 w ≡ false
not_wide w h = grind (arith, nat_tests, h)

-- ---- one module

module _ (d : Design) (sound : HasSoundModules d) where
  module _ (p : Placed) (at : IsPlacedIn d p) where
    s : Scope
    s = placed_scope p

    is : IsSound d p
    is = is_sound d sound p at

    parts : AreGoodParts d.source p.of_module (placed_scope p)
    parts = subst (AreGoodParts d.source p.of_module) is.same is.parts

    item_good : (i : Item) → IsAmong p.of_module.items i → Good (broken_module_item d.source (placed_scope p) i)
    item_good i h = good_item d.source (placed_scope p) p.of_module.items i h parts.items

    pub declared_name : (n : Name) → IsNameOf p n → IsTrue ((placed_scope p n).is_declared)
    declared_name n h = found (entry_of p.constants n) refl (declaration_of (declarations p.of_module) n) refl
      where
        object : (signed : Bool) (r : Option Range) (a : Option (ℕ × ℕ)) → IsTrue ((record (ranged_object (scope_of p.constants) signed r) { addresses = a }).is_declared)
        object signed None a = refl
        object signed (Some r) a = refl

        found : (x : Option Object) → entry_of p.constants n ≡ x → (y : Option Declaration) → declaration_of (declarations p.of_module) n ≡ y
            → IsTrue ((object_or_undeclared (first_of x (option_map (declared_object (scope_of p.constants)) y))).is_declared)
        found (Some o) e y f = (entry_is p.constants n o is.has.parameters e).declared
        found None e (Some dd) f = object dd.signed dd.range (option_map (bounds_of (scope_of p.constants)) dd.addresses)
        found None e None f = absurd (nothing h)
          where
            nothing : IsNameOf p n → ⊥
            nothing (inl k) = false≢true (ap is_some (sym f) ∙ declared_something (declarations p.of_module) n k)
            nothing (inr k) = false≢true (ap is_some (sym e) ∙ is.has.entries n (test_among (parameter_names (all_parameters p.of_module)) n k))

    pub narrow_name : (n : Name) → nat_lt 128 (object_width (placed_scope p n)) ≡ false
    narrow_name n = not_wide (object_width (placed_scope p n)) (is.narrow n).0

    -- what has no addresses is no memory
    unaddressed : (n : Name) → addresses_in (declaration_of (declarations p.of_module) n) ≡ None → is_memory (placed_scope p n) ≡ false
    unaddressed n h = found (entry_of p.constants n) (λ o e. (entry_is p.constants n o is.has.parameters e).no_memory) (declaration_of (declarations p.of_module) n) h
      where
        found : (x : Option Object) → ((o : Object) → x ≡ Some o → o.addresses ≡ None) → (y : Option Declaration) → addresses_in y ≡ None
            → is_memory (object_or_undeclared (first_of x (option_map (declared_object (scope_of p.constants)) y))) ≡ false
        found (Some o) f y g = ap is_some (f o refl)
        found None f None g = refl
        found None f (Some dd) g = ap (λ a. is_some (option_map (bounds_of (scope_of p.constants)) a)) g

    -- a port is no memory
    pub port_plain : (n : Name) (way : Direction) → HasPort p.of_module n way → is_memory (placed_scope p n) ≡ false
    port_plain n way h =
        other (is_some (entry_of (port_directions p.of_module) n)) (is_memory (placed_scope p n)) (ap is_some h)
        (declaration_good (placed_scope p) p.of_module (declarations p.of_module) n parts.declared (port_is_declared p n way h)).1
      where
        other : (a b : Bool) → a ≡ true → (a && b) ≡ false → b ≡ false
        other true b e f = f
        other false b e f = absurd (false≢true e)

    -- names are declared
    known_expression : (e : Expression) → EachIn (IsNameOf p) e → EachIn (Known (placed_scope p)) e
    known_expression e a = each_follows (IsNameOf p) (Known (placed_scope p)) declared_name e a

    known_target : (t : Target) → EachInTarget (IsNameOf p) t → EachInTarget (Known (placed_scope p)) t
    known_target t a = target_follows (IsNameOf p) (Known (placed_scope p)) declared_name t a

    good_value : (e : Expression) → EachIn (IsNameOf p) e → Good (broken (placed_scope p) anywhere e) → is_unbroken (broken (placed_scope p) anywhere e) ≡ true
    good_value e a g = unbroken (broken (placed_scope p) anywhere e) g (expression_declared (placed_scope p) e anywhere (known_expression e a))

    good_target : (t : Target) → EachInTarget (IsNameOf p) t → Good (broken_net_target (placed_scope p) by_constants t)
        → is_unbroken (broken_net_target (placed_scope p) by_constants t) ≡ true
    good_target t a g = unbroken (broken_net_target (placed_scope p) by_constants t) g (net_declared (placed_scope p) t by_constants (known_target t a))

    -- ---- drivers of the module

    pub link_unbroken : (a : Target × Expression) → IsAmong (assignments p.of_module.items) a → LinkBreaksNothing (placed_scope p) a
    link_unbroken a h = by_item (assigned_by p.of_module.items a h)
      where
        by_item : AssignedBy p.of_module.items a → LinkBreaksNothing (placed_scope p) a
        by_item (by_assign ts i k) =
            let g = one_good (placed_scope p) ts a k (item_good (assign ts) i) in
            record {
              target = good_target a.0 (in_assigned d sound.names_declared p at a h) g.0;
              value = good_value a.1 (in_right_side d sound.names_declared p at a h) g.1;
            }
        by_item (by_wire signed r ws n e i k same) =
            let g = good_right (broken_range (placed_scope p) r) (broken_initial_values (placed_scope p) ws) (item_good (wires signed r ws) i) in
            let m : is_memory (placed_scope p n) ≡ false = unaddressed n (wire_unaddressed p.of_module (once d sound p at) signed r ws (n, Some e) i k) in
            let named : EachInTarget (IsNameOf p) (whole_of n) =
            subst (λ (b : Target × Expression). EachInTarget (IsNameOf p) b.0) (sym same) (in_assigned d sound.names_declared p at a h) in
            let value : EachIn (IsNameOf p) e = subst (λ (b : Target × Expression). EachIn (IsNameOf p) b.1) (sym same) (in_right_side d sound.names_declared p at a h) in
            subst (LinkBreaksNothing (placed_scope p)) same
            (record {
              target = whole_target (placed_scope p) by_constants n (declared_name n named.0) (narrow_name n) m;
              value = good_value e value (wire_good (placed_scope p) ws n e k g);
            })

    statement_unbroken : (c : Bool) (x : Statement) → IsBlockIn p.of_module.items x c → EachInStatement (IsNameOf p) x
        → is_unbroken (broken_statement (placed_scope p) c x) ≡ true
    statement_unbroken c x b a =
        let g : Good (broken_statement (placed_scope p) (is_clocked b.events) x) =
        good_right (broken_events (placed_scope p) b.events) (broken_statement (placed_scope p) (is_clocked b.events) x) (item_good (always b.events x) b.is_item) in
        unbroken (broken_statement (placed_scope p) c x) (subst (λ k. Good (broken_statement (placed_scope p) k x)) b.kind g)
        (statement_declared (placed_scope p) c x (statement_follows (IsNameOf p) (Known (placed_scope p)) declared_name x a))

    pub block_unbroken : (x : Statement) → IsAmong (combinational_blocks p.of_module.items) x → is_unbroken (broken_statement (placed_scope p) false x) ≡ true
    block_unbroken x h = statement_unbroken false x (comb_in p.of_module.items x h) (in_block d sound.names_declared p at x h)

    pub clocked_unbroken : (x : Statement) → IsAmong (clocked_blocks p.of_module.items) x → is_unbroken (broken_statement (placed_scope p) true x) ≡ true
    clocked_unbroken x h = statement_unbroken true x (clocked_in p.of_module.items x h) (in_clocked d sound.names_declared p at x h)

    -- ---- connections

    rules_below : (c : Connection) (below : Placed) → IsAmong (port_connections p.of_module.items) c → at_path d (instance_step c.of_instance ∷ p.path) ≡ Some below
        → Good (broken_connection (placed_scope p) (Some below.of_module) c)
    rules_below c below h is_below =
        let b : Belongs p.of_module.items c = belongs p.of_module.items c h in
        let t : StepsTo d (instance_step c.of_instance) p.path below = step_of d (instance_step c.of_instance) p.path below is_below in
        let outer : p ≡ t.outer = some_same (sym at ∙ t.is_outer) in
        let reached : instance_named p.of_module.items c.of_instance ≡ Some t.instance =
        subst (λ (q : Placed). instance_named q.of_module.items c.of_instance ≡ Some t.instance) (sym outer) t.is_reached in
        let of_module_name : t.instance.of_module ≡ b.of_module = one_module p.of_module c t.instance (once d sound p at) b reached in
        let named : module_named d.source b.of_module ≡ Some below.of_module =
        subst (λ k. module_named d.source k ≡ Some below.of_module) of_module_name
        (module_of_instance d.source (instance_step c.of_instance ∷ t.outer.path) (placed_scope t.outer) t.instance below t.is_placed) in
        let g : Good (broken_instances (placed_scope p) (Some below.of_module) b.each) =
        subst (λ x. Good (broken_instances (placed_scope p) x b.each)) named
        (good_right (broken_overrides (placed_scope p) b.given) (broken_instances (placed_scope p) (module_named d.source b.of_module) b.each)
        (item_good (instances b.of_module b.given b.each) b.is_item)) in
        connection_good (placed_scope p) (Some below.of_module) (instance_connections c.of_instance b.connections) c b.is_one
        (instance_good (placed_scope p) (Some below.of_module) b.each (c.of_instance, b.connections) b.is_instance g)

    by_direction : (c : Connection) (below : Placed) (n : Name) (way : Direction) → IsConnectedTo d p c below n way
        → port_direction below.of_module (port_meant below.of_module c.to_port) ≡ Some way
    by_direction c below n way to = ap (port_direction below.of_module) to.is_meant ∙ to.is_port

    pub input_unbroken : (c : Connection) (below : Placed) (n : Name) → IsAmong (port_connections p.of_module.items) c → IsConnectedTo d p c below n input
        → is_unbroken (broken (placed_scope p) anywhere c.expression) ≡ true
    input_unbroken c below n h to =
        good_value c.expression (in_connection d sound.names_declared p at c h)
        (subst (λ b. Good (cond b (broken_output (placed_scope p) c.expression (as_target c.expression)) (broken (placed_scope p) anywhere c.expression)))
        (ap is_output (by_direction c below n input to)) (rules_below c below h to.is_below))

    pub output_unbroken : (c : Connection) (below : Placed) (n : Name) (t : Target) → IsAmong (port_connections p.of_module.items) c
        → IsConnectedTo d p c below n output → as_target c.expression ≡ Some t → is_unbroken (broken_net_target (placed_scope p) by_constants t) ≡ true
    output_unbroken c below n t h to e =
        good_target t (in_output d sound.names_declared p at c t h e)
        (subst (λ x. Good (broken_output (placed_scope p) c.expression x)) e
        (subst (λ b. Good (cond b (broken_output (placed_scope p) c.expression (as_target c.expression)) (broken (placed_scope p) anywhere c.expression)))
        (ap is_output (by_direction c below n output to)) (rules_below c below h to.is_below)))

  -- ---- in the one scope

  module _ (called : Naming) (s : Scope) (links : List (Target × Expression)) (blocks clocked : List Statement) (flat : IsFlat d called s links blocks clocked) where
    good : ¬ HasUndeclared d
    good = sound.names_declared

    value_there : (p : Placed) (e : Expression) → IsPlacedIn d p → EachIn (IsNameOf p) e → is_unbroken (broken (placed_scope p) anywhere e) ≡ true
        → is_unbroken (broken s anywhere (renamed_expression (called p.path) e)) ≡ true
    value_there p e at a h =
        ap is_unbroken
        ((expressions_break_the_same (called p.path) (placed_scope p) s e (expression_known d called good s links blocks clocked flat p e at a)).rules anywhere)
        ∙ h

    target_there : (p : Placed) (t : Target) → IsPlacedIn d p → EachInTarget (IsNameOf p) t → is_unbroken (broken_net_target (placed_scope p) by_constants t) ≡ true
        → is_unbroken (broken_net_target s by_constants (renamed_target (called p.path) t)) ≡ true
    target_there p t at a h =
        ap is_unbroken
        ((targets_break_the_same (called p.path) (placed_scope p) s t (target_known d called good s links blocks clocked flat p t at a)).net_rules by_constants)
        ∙ h

    statement_there : (p : Placed) (c : Bool) (x : Statement) → IsPlacedIn d p → EachInStatement (IsNameOf p) x
        → is_unbroken (broken_statement (placed_scope p) c x) ≡ true → is_unbroken (broken_statement s c (renamed_statement (called p.path) x)) ≡ true
    statement_there p c x at a h =
        ap is_unbroken (statements_break_the_same (called p.path) (placed_scope p) s c x (statement_known d called good s links blocks clocked flat p x at a)) ∙ h

    connected : (p : Placed) (c : Connection) (a : Target × Expression) → IsPlacedIn d p → IsAmong (port_connections p.of_module.items) c → IsLink d called p c a
        → LinkBreaksNothing s a
    connected p c _ at h (to_input below n to) =
        let at_below : IsPlacedIn d below = leads_to d p below c n to in
        let is_name : IsNameOf below n = inl (port_is_declared below n input to.is_port) in
        record {
          target = target_there below (whole_of n) at_below (is_name, tt)
              (whole_target (placed_scope below) by_constants n (declared_name below at_below n is_name) (narrow_name below at_below n)
              (port_plain below at_below n input to.is_port));
          value = value_there p c.expression at (in_connection d good p at c h) (input_unbroken p at c below n h to);
        }
    connected p c _ at h (of_output below n t to e) =
        let at_below : IsPlacedIn d below = leads_to d p below c n to in
        let is_name : IsNameOf below n = inl (port_is_declared below n output to.is_port) in
        record {
          target = target_there p t at (in_output d good p at c t h e) (output_unbroken p at c below n t h to e);
          value = value_there below (whole_name n) at_below (is_name, tt)
              (whole_value (placed_scope below) n (declared_name below at_below n is_name) (narrow_name below at_below n)
              (port_plain below at_below n output to.is_port));
        }

    link_breaks_nothing : (a : Target × Expression) → IsFlatLink d called a → LinkBreaksNothing s a
    link_breaks_nothing _ (of_module p a at c) =
        let h = among_contains (assignments p.of_module.items) a c in
        let g : LinkBreaksNothing (placed_scope p) a = link_unbroken p at a h in
        record {
          target = target_there p a.0 at (in_assigned d good p at a h) g.target;
          value = value_there p a.1 at (in_right_side d good p at a h) g.value;
        }
    link_breaks_nothing _ (of_connection p c a at k l) = connected p c a at (among_contains (port_connections p.of_module.items) c k) l

    block_breaks_nothing : (x : Statement) → IsFlatBlock d called x → BreaksNothing (broken_statement s false x)
    block_breaks_nothing _ (of_block p x at c) =
        let h = among_contains (combinational_blocks p.of_module.items) x c in
        statement_there p false x at (in_block d good p at x h) (block_unbroken p at x h)

    clocked_breaks_nothing : (x : Statement) → IsFlatClocked d called x → BreaksNothing (broken_statement s true x)
    clocked_breaks_nothing _ (of_clocked p x at c) =
        let h = among_contains (clocked_blocks p.of_module.items) x c in
        statement_there p true x at (in_clocked d good p at x h) (clocked_unbroken p at x h)

    object_there : (p : Placed) (n : Name) → IsPlacedIn d p → IsNameOf p n → HasObjectInBounds (s (called p.path n))
    object_there p n at h = subst HasObjectInBounds (sym (flat.says_the_same p n at h)) ((is_sound d sound p at).bounded n)

pub flat_drivers_break_nothing : FlatDriversBreakNothing
flat_drivers_break_nothing d called s links blocks clocked sound flat =
    record {
      each_link = λ a c. link_breaks_nothing d sound called s links blocks clocked flat a ((flat.are_links a).0 c);
      each_block = λ x c. block_breaks_nothing d sound called s links blocks clocked flat x ((flat.are_blocks x).0 c);
      each_clocked = λ x c. clocked_breaks_nothing d sound called s links blocks clocked flat x ((flat.are_clocked x).0 c);
    }

pub flat_objects_are_in_bounds : FlatObjectsAreInBounds
flat_objects_are_in_bounds d called s links blocks clocked p n sound flat at h = object_there d sound called s links blocks clocked flat p n at h

-- ---- all names

-- that an object is narrow is told by tests
number_fits : ℕ → Option ℕ → Bool
number_fits w None = true
number_fits w (Some c) = nat_lt c (2 ^ w)

from_tests : (w : ℕ) (c : Option ℕ) → nat_le w 128 ≡ true → number_fits w c ≡ true → (w ≤ 128) × IfSome c (λ k. k < 2 ^ w)
unfolding number_fits
from_tests w None h g = (grind (arith, nat_tests, h), tt)
from_tests w (Some c) h g = (grind (arith, nat_tests, h), below c (2 ^ w) g)
  where
    below : (a b : ℕ) → nat_lt a b ≡ true → a < b
    below a b e = grind (arith, nat_tests, e)

to_tests : (w : ℕ) (c : Option ℕ) → (w ≤ 128) × IfSome c (λ k. k < 2 ^ w) → (nat_le w 128 ≡ true) × (number_fits w c ≡ true)
unfolding number_fits
to_tests w None h = let l = h.0 in (grind (arith, nat_tests, l), refl)
to_tests w (Some c) h = let l = h.0 in (grind (arith, nat_tests, l), below c (2 ^ w) h.1)
  where
    below : (a b : ℕ) → a < b → nat_lt a b ≡ true
    below a b e = grind (arith, nat_tests, e)

-- what is not refuted
stable : (o : Object) → ((IsNarrowObject o → ⊥) → ⊥) → IsNarrowObject o
stable o h = from_tests (object_width o) o.constant (tested (nat_le (object_width o) 128) (λ t. t.0)) (tested (number_fits (object_width o) o.constant) (λ t. t.1))
  where
    tested : (b : Bool) → ((nat_le (object_width o) 128 ≡ true) × (number_fits (object_width o) o.constant ≡ true) → b ≡ true) → b ≡ true
    tested true f = refl
    tested false f = absurd (h (λ g. false≢true (f (to_tests (object_width o) o.constant g))))

pub flat_scopes_are_narrow : FlatScopesAreNarrow
flat_scopes_are_narrow d called s links blocks clocked sound flat others n =
    stable (s n) (λ no_object. no_object (subst IsNarrowObject (sym (others n (λ p m at h e.
    no_object (subst (λ k. IsNarrowObject (s k)) e (flat_objects_are_in_bounds d called s links blocks clocked p m sound flat at h).narrow)))) undeclared_narrow))
