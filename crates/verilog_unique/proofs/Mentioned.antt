-- What stands in the assignments, blocks and connections of a module is mentioned in it.
use Rattle.std.proofs.Common.{◌≡◌, ℕ, suc, Bool, true, false, cond, List, [], ◌∷◌, ◌++◌, inl, inr, refl, sym, ap, subst, Option, Some, None}
use Rattle.wb_values.specs.Value.{Name}
use Rattle.verilog_trees.specs.Syntax.{Expression, Target, place, joined, Targets, no_targets, target, Statement, Connections, by_name, by_order, Item, port, parameter, wires, variables, assign, always, instances, Module}
use Rattle.verilog_meaning.specs.Register.{is_clocked, combinational_blocks}
use Rattle.verilog_meaning.specs.Hierarchy.{header_ports}
use Rattle.verilog_meaning.specs.Settled.{wire_assignment, wire_assignments, assignments, PortPlace, port_named, port_numbered, Connection, connection_if_any, named_connections, ordered_connections, instance_connections, connections_of_each, port_connections}
use Rattle.verilog_designs.specs.Names.{names_in, names_in_target, names_in_targets, names_in_statement, names_in_optional, names_in_range, names_in_named, names_in_ordered, names_in_connections, names_in_events, names_in_assignments, names_in_instances, names_in_ports, Mention, used, uses, all_parameter_mentions, item_mentions, all_item_mentions, mentions}
use Rattle.verilog_designs.specs.Constants.{index_names, index_names_in_all}
use Rattle.verilog_unique.proofs.Descent.{IsAmong, among_left, among_right, among_either}

-- each of the names is mentioned
abbrev pub AreUsed : List Mention → List Name → Type 0
AreUsed ms ns = (n : Name) → IsAmong ns n → IsAmong ms (used n)

use_among : (ns : List Name) (n : Name) → IsAmong ns n → IsAmong (uses ns) (used n)
use_among [] n h = absurd h
use_among (m ∷ ns) n (inl e) = inl (ap used e)
use_among (m ∷ ns) n (inr h) = inr (use_among ns n h)

later : (i : Item) (items : List Item) (ns : List Name) → AreUsed (all_item_mentions items) ns → AreUsed (all_item_mentions (i ∷ items)) ns
later i items ns f n h = among_right (item_mentions i) (all_item_mentions items) (used n) (f n h)

first : (i : Item) (items : List Item) (ns ms : List Name) → item_mentions i ≡ uses ms → ((n : Name) → IsAmong ns n → IsAmong ms n)
    → AreUsed (all_item_mentions (i ∷ items)) ns
first i items ns ms e f n h =
    among_left (item_mentions i) (all_item_mentions items) (used n) (subst (λ us. IsAmong us (used n)) (sym e) (use_among ms n (f n h)))

pub in_module : (m : Module) (ns : List Name) → AreUsed (all_item_mentions m.items) ns → AreUsed (mentions m) ns
in_module m ns f n h =
    among_right (all_parameter_mentions m.parameters ++ uses (names_in_ports (header_ports m.ports))) (all_item_mentions m.items) (used n) (f n h)

-- ---- assignments

wire_names : (ws : List (Name × Option Expression)) (a : Target × Expression) → IsAmong (wire_assignments ws) a → (n : Name)
    → IsAmong (names_in a.1) n → IsAmong (names_in_named ws) n
wire_names [] a h n k = absurd h
wire_names (w ∷ ws) a h n k = found w.1 (λ g. wire_names ws a g n k) h
  where
    found : (x : Option Expression) → (IsAmong (wire_assignments ws) a → IsAmong (names_in_named ws) n)
        → IsAmong (wire_assignment w.0 x ++ wire_assignments ws) a → IsAmong (names_in_optional x ++ names_in_named ws) n
    found None f g = f g
    found (Some e) f (inl g) = among_left (names_in e) (names_in_named ws) n (subst (λ (b : Target × Expression). IsAmong (names_in b.1) n) (sym g) k)
    found (Some e) f (inr g) = among_right (names_in e) (names_in_named ws) n (f g)

assigned_names : (ts : List (Target × Expression)) (a : Target × Expression) → IsAmong ts a → (n : Name) → IsAmong (names_in a.1) n
    → IsAmong (names_in_assignments ts) n
assigned_names [] a h n k = absurd h
assigned_names (t ∷ ts) a (inl e) n k =
    among_left (names_in_target t.0 ++ names_in t.1) (names_in_assignments ts) n
    (among_right (names_in_target t.0) (names_in t.1) n (subst (λ (b : Target × Expression). IsAmong (names_in b.1) n) (sym e) k))
assigned_names (t ∷ ts) a (inr h) n k =
    among_right (names_in_target t.0 ++ names_in t.1) (names_in_assignments ts) n (assigned_names ts a h n k)

pub assignment_used : (items : List Item) (a : Target × Expression) → IsAmong (assignments items) a → AreUsed (all_item_mentions items) (names_in a.1)
assignment_used [] a h = absurd h
assignment_used (port d ∷ items) a h = later (port d) items (names_in a.1) (assignment_used items a h)
assignment_used (parameter d ∷ items) a h = later (parameter d) items (names_in a.1) (assignment_used items a h)
assignment_used (wires signed r ws ∷ items) a h =
    elim (among_either (wire_assignments ws) (assignments items) a h) as (λ _. AreUsed (all_item_mentions (wires signed r ws ∷ items)) (names_in a.1)) [
      | inl k ↦ first (wires signed r ws) items (names_in a.1) (names_in_range r ++ names_in_named ws) refl
          (λ n g. among_right (names_in_range r) (names_in_named ws) n (wire_names ws a k n g))
      | inr k ↦ later (wires signed r ws) items (names_in a.1) (assignment_used items a k)
    ]
assignment_used (variables signed r vs ∷ items) a h = later (variables signed r vs) items (names_in a.1) (assignment_used items a h)
assignment_used (assign ts ∷ items) a h =
    elim (among_either ts (assignments items) a h) as (λ _. AreUsed (all_item_mentions (assign ts ∷ items)) (names_in a.1)) [
      | inl k ↦ first (assign ts) items (names_in a.1) (names_in_assignments ts) refl (assigned_names ts a k)
      | inr k ↦ later (assign ts) items (names_in a.1) (assignment_used items a k)
    ]
assignment_used (always es x ∷ items) a h = later (always es x) items (names_in a.1) (assignment_used items a h)
assignment_used (instances m given is ∷ items) a h = later (instances m given is) items (names_in a.1) (assignment_used items a h)

-- ---- the indexes of their targets

mutual
  indexes_in : (t : Target) (n : Name) → IsAmong (index_names t) n → IsAmong (names_in_target t) n
  indexes_in (place m x) n h = inr h
  indexes_in (joined ts) n h = all_indexes_in ts n h

  all_indexes_in : (ts : Targets) (n : Name) → IsAmong (index_names_in_all ts) n → IsAmong (names_in_targets ts) n
  all_indexes_in no_targets n h = h
  all_indexes_in (target t ts) n h =
      elim (among_either (index_names t) (index_names_in_all ts) n h) as (λ _. IsAmong (names_in_target t ++ names_in_targets ts) n) [
        | inl k ↦ among_left (names_in_target t) (names_in_targets ts) n (indexes_in t n k)
        | inr k ↦ among_right (names_in_target t) (names_in_targets ts) n (all_indexes_in ts n k)
      ]

pub wire_indexes : (ws : List (Name × Option Expression)) (a : Target × Expression) → IsAmong (wire_assignments ws) a → (n : Name) → IsAmong (index_names a.0) n → ⊥
wire_indexes [] a h n k = h
wire_indexes (w ∷ ws) a h n k = found w.1 (λ g. wire_indexes ws a g n k) h
  where
    found : (x : Option Expression) → (IsAmong (wire_assignments ws) a → ⊥) → IsAmong (wire_assignment w.0 x ++ wire_assignments ws) a → ⊥
    found None f g = f g
    found (Some e) f (inl g) = subst (λ (b : Target × Expression). IsAmong (index_names b.0) n) (sym g) k
    found (Some e) f (inr g) = f g

target_names : (ts : List (Target × Expression)) (a : Target × Expression) → IsAmong ts a → (n : Name) → IsAmong (index_names a.0) n
    → IsAmong (names_in_assignments ts) n
target_names [] a h n k = absurd h
target_names (t ∷ ts) a (inl e) n k =
    among_left (names_in_target t.0 ++ names_in t.1) (names_in_assignments ts) n
    (among_left (names_in_target t.0) (names_in t.1) n
    (indexes_in t.0 n (subst (λ (b : Target × Expression). IsAmong (index_names b.0) n) (sym e) k)))
target_names (t ∷ ts) a (inr h) n k =
    among_right (names_in_target t.0 ++ names_in t.1) (names_in_assignments ts) n (target_names ts a h n k)

pub indexes_used : (items : List Item) (a : Target × Expression) → IsAmong (assignments items) a → AreUsed (all_item_mentions items) (index_names a.0)
indexes_used [] a h = absurd h
indexes_used (port d ∷ items) a h = later (port d) items (index_names a.0) (indexes_used items a h)
indexes_used (parameter d ∷ items) a h = later (parameter d) items (index_names a.0) (indexes_used items a h)
indexes_used (wires signed r ws ∷ items) a h =
    elim (among_either (wire_assignments ws) (assignments items) a h) as (λ _. AreUsed (all_item_mentions (wires signed r ws ∷ items)) (index_names a.0))
    [ inl k ↦ λ n g. absurd (wire_indexes ws a k n g) | inr k ↦ later (wires signed r ws) items (index_names a.0) (indexes_used items a k) ]
indexes_used (variables signed r vs ∷ items) a h = later (variables signed r vs) items (index_names a.0) (indexes_used items a h)
indexes_used (assign ts ∷ items) a h =
    elim (among_either ts (assignments items) a h) as (λ _. AreUsed (all_item_mentions (assign ts ∷ items)) (index_names a.0)) [
      | inl k ↦ first (assign ts) items (index_names a.0) (names_in_assignments ts) refl (target_names ts a k)
      | inr k ↦ later (assign ts) items (index_names a.0) (indexes_used items a k)
    ]
indexes_used (always es x ∷ items) a h = later (always es x) items (index_names a.0) (indexes_used items a h)
indexes_used (instances m given is ∷ items) a h = later (instances m given is) items (index_names a.0) (indexes_used items a h)

-- ---- combinational blocks

pub block_used : (items : List Item) (x : Statement) → IsAmong (combinational_blocks items) x → AreUsed (all_item_mentions items) (names_in_statement x)
block_used [] x h = absurd h
block_used (port d ∷ items) x h = later (port d) items (names_in_statement x) (block_used items x h)
block_used (parameter d ∷ items) x h = later (parameter d) items (names_in_statement x) (block_used items x h)
block_used (wires signed r ws ∷ items) x h = later (wires signed r ws) items (names_in_statement x) (block_used items x h)
block_used (variables signed r vs ∷ items) x h = later (variables signed r vs) items (names_in_statement x) (block_used items x h)
block_used (assign ts ∷ items) x h = later (assign ts) items (names_in_statement x) (block_used items x h)
block_used (always es y ∷ items) x h = chosen (is_clocked es) (block_used items x) h
  where
    chosen : (b : Bool) → (IsAmong (combinational_blocks items) x → AreUsed (all_item_mentions items) (names_in_statement x))
        → IsAmong (cond b (combinational_blocks items) (y ∷ combinational_blocks items)) x → AreUsed (all_item_mentions (always es y ∷ items)) (names_in_statement x)
    chosen true f g = later (always es y) items (names_in_statement x) (f g)
    chosen false f (inl e) =
        first (always es y) items (names_in_statement x) (names_in_events es ++ names_in_statement y) refl
        (λ n k. among_right (names_in_events es) (names_in_statement y) n (subst (λ z. IsAmong (names_in_statement z) n) (sym e) k))
    chosen false f (inr g) = later (always es y) items (names_in_statement x) (f g)
block_used (instances m given is ∷ items) x h = later (instances m given is) items (names_in_statement x) (block_used items x h)

-- ---- connections

-- the expression's names are among these
abbrev Gives : Connection → List Name → Type 0
Gives c ns = (n : Name) → IsAmong (names_in c.expression) n → IsAmong ns n

if_any : (u : Name) (q : PortPlace) (x : Option Expression) (c : Connection) → IsAmong (connection_if_any u q x) c → Gives c (names_in_optional x)
if_any u q None c h n k = absurd h
if_any u q (Some e) c (inl f) n k = subst (λ (d : Connection). IsAmong (names_in d.expression) n) (sym f) k
if_any u q (Some e) c (inr f) n k = absurd f

named : (u : Name) (cs : List (Name × Option Expression)) (c : Connection) → IsAmong (named_connections u cs) c → Gives c (names_in_named cs)
named u [] c h n k = absurd h
named u (x ∷ cs) c h n k =
    elim (among_either (connection_if_any u (port_named x.0) x.1) (named_connections u cs) c h) as (λ _. IsAmong (names_in_optional x.1 ++ names_in_named cs) n) [
      | inl g ↦ among_left (names_in_optional x.1) (names_in_named cs) n (if_any u (port_named x.0) x.1 c g n k)
      | inr g ↦ among_right (names_in_optional x.1) (names_in_named cs) n (named u cs c g n k)
    ]

ordered : (u : Name) (i : ℕ) (es : List (Option Expression)) (c : Connection) → IsAmong (ordered_connections u i es) c → Gives c (names_in_ordered es)
ordered u i [] c h n k = absurd h
ordered u i (x ∷ es) c h n k =
    elim (among_either (connection_if_any u (port_numbered i) x) (ordered_connections u (suc i) es) c h)
    as (λ _. IsAmong (names_in_optional x ++ names_in_ordered es) n) [
      | inl g ↦ among_left (names_in_optional x) (names_in_ordered es) n (if_any u (port_numbered i) x c g n k)
      | inr g ↦ among_right (names_in_optional x) (names_in_ordered es) n (ordered u (suc i) es c g n k)
    ]

of_instance : (u : Name) (cs : Connections) (c : Connection) → IsAmong (instance_connections u cs) c → Gives c (names_in_connections cs)
of_instance u (by_name cs) c h = named u cs c h
of_instance u (by_order es) c h = ordered u 0 es c h

of_each : (is : List (Name × Connections)) (c : Connection) → IsAmong (connections_of_each is) c → Gives c (names_in_instances is)
of_each [] c h n k = absurd h
of_each (i ∷ is) c h n k =
    elim (among_either (instance_connections i.0 i.1) (connections_of_each is) c h) as (λ _. IsAmong (names_in_connections i.1 ++ names_in_instances is) n) [
      | inl g ↦ among_left (names_in_connections i.1) (names_in_instances is) n (of_instance i.0 i.1 c g n k)
      | inr g ↦ among_right (names_in_connections i.1) (names_in_instances is) n (of_each is c g n k)
    ]

pub connection_used : (items : List Item) (c : Connection) → IsAmong (port_connections items) c → AreUsed (all_item_mentions items) (names_in c.expression)
connection_used [] c h = absurd h
connection_used (port d ∷ items) c h = later (port d) items (names_in c.expression) (connection_used items c h)
connection_used (parameter d ∷ items) c h = later (parameter d) items (names_in c.expression) (connection_used items c h)
connection_used (wires signed r ws ∷ items) c h = later (wires signed r ws) items (names_in c.expression) (connection_used items c h)
connection_used (variables signed r vs ∷ items) c h = later (variables signed r vs) items (names_in c.expression) (connection_used items c h)
connection_used (assign ts ∷ items) c h = later (assign ts) items (names_in c.expression) (connection_used items c h)
connection_used (always es x ∷ items) c h = later (always es x) items (names_in c.expression) (connection_used items c h)
connection_used (instances m given is ∷ items) c h =
    elim (among_either (connections_of_each is) (port_connections items) c h)
    as (λ _. AreUsed (all_item_mentions (instances m given is ∷ items)) (names_in c.expression)) [
      | inl k ↦ first (instances m given is) items (names_in c.expression) (names_in_connections given ++ names_in_instances is) refl
          (λ n g. among_right (names_in_connections given) (names_in_instances is) n (of_each is c k n g))
      | inr k ↦ later (instances m given is) items (names_in c.expression) (connection_used items c k)
    ]
