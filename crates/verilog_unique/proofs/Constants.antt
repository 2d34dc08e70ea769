-- The indexes in the targets of continuous assignments and of outputs are constant.
use Rattle.std.proofs.Common.{◌≡◌, Bool, true, false, cond, List, [], ◌∷◌, ◌++◌, inl, inr, refl, sym, ap, ◌∙◌, subst, Option, Some, None}
use Rattle.std.specs.Prelude.{IsTrue, is_some, not, ◌&&◌, option_map, option_and_then}
use Rattle.wb_values.specs.Value.{Name}
use Rattle.verilog_trees.specs.Syntax.{Expression, number, name, concatenation, replication, as_signed, as_unsigned, unary, reduction, binary, shift, power, comparison, logical, conditional, Expressions, no_expressions, expression, Select, index, part, part_up, part_down, Selects, whole, one, two, Target, place, joined, Targets, no_targets, target, Connections, Item, port, parameter, wires, variables, assign, always, instances, Module, Source}
use Rattle.verilog_meaning.specs.Expression.{Scope}
use Rattle.verilog_meaning.specs.Register.{is_constant, are_constant, select_is_constant, selects_are_constant}
use Rattle.verilog_meaning.specs.Hierarchy.{PathStep, Placed, placed_scope, Instance, instance_reached, placed_instance, declarations, all_parameters}
use Rattle.verilog_meaning.specs.Settled.{Design, at_path, is_declared_among, wire_assignments, assignments, as_target, all_as_targets, Connection, instance_connections, port_meant}
use Rattle.verilog_designs.specs.Names.{is_among, parameter_names, names_in, names_in_all, names_in_select, names_in_selects}
use Rattle.verilog_designs.specs.Ports.{is_output, port_direction}
use Rattle.verilog_designs.specs.Constants.{index_names, index_names_in_all, constant_names, constant_names_in_assignments, constant_names_in_output, constant_names_in_connection, constant_names_in_connections, constant_names_in_instances, constant_names_in_item, constant_names_in_module_items, constant_names_in_module, is_net, has_net_as_constant}
use Rattle.verilog_designs.specs.Known.{known_scope, known_constants, known_overrides, known_instance, known_below, known_at}
use Rattle.verilog_settled.specs.Locality.{has_constant_selects, all_have_constant_selects}
use Rattle.verilog_unique.proofs.Options.{from_map, from_chain}
use Rattle.verilog_unique.proofs.Descent.{IsAmong, among_left, among_right, among_either}
use Rattle.verilog_unique.proofs.Paths.{StepsTo, step_of, instance_from, top_from}
use Rattle.verilog_unique.proofs.Standing.{IsKnownIn}
use Rattle.verilog_unique.proofs.Mentioned.{wire_indexes}
use Rattle.verilog_unique.proofs.Instances.{any_false}

-- ---- what rests on parameters alone is constant

abbrev pub AllNumbers : Scope → List Name → Type 0
AllNumbers s ns = (n : Name) → IsAmong ns n → IsTrue (is_some (s n).constant)

left : (s : Scope) (ns ms : List Name) → AllNumbers s (ns ++ ms) → AllNumbers s ns
left s ns ms f n h = f n (among_left ns ms n h)

right : (s : Scope) (ns ms : List Name) → AllNumbers s (ns ++ ms) → AllNumbers s ms
right s ns ms f n h = f n (among_right ns ms n h)

both : (a b : Bool) → IsTrue a → IsTrue b → IsTrue (a && b)
both true b s t = t
both false b s t = cc

mutual
  constant : (s : Scope) (e : Expression) → AllNumbers s (names_in e) → IsTrue (is_constant s e)
  constant s (number k) f = refl
  constant s (name n x) f =
      both (is_some (s n).constant) (selects_are_constant s x) (f n (inl refl)) (selects_constant s x (right s (n ∷ []) (names_in_selects x) f))
  constant s (concatenation es) f = all_constant s es f
  constant s (replication k es) f = all_constant s es (right s (names_in k) (names_in_all es) f)
  constant s (as_signed x) f = constant s x f
  constant s (as_unsigned x) f = constant s x f
  constant s (unary op x) f = constant s x f
  constant s (reduction op x) f = constant s x f
  constant s (binary op x y) f =
      both (is_constant s x) (is_constant s y) (constant s x (left s (names_in x) (names_in y) f)) (constant s y (right s (names_in x) (names_in y) f))
  constant s (shift op x y) f =
      both (is_constant s x) (is_constant s y) (constant s x (left s (names_in x) (names_in y) f)) (constant s y (right s (names_in x) (names_in y) f))
  constant s (power x y) f =
      both (is_constant s x) (is_constant s y) (constant s x (left s (names_in x) (names_in y) f)) (constant s y (right s (names_in x) (names_in y) f))
  constant s (comparison op x y) f =
      both (is_constant s x) (is_constant s y) (constant s x (left s (names_in x) (names_in y) f)) (constant s y (right s (names_in x) (names_in y) f))
  constant s (logical op x y) f =
      both (is_constant s x) (is_constant s y) (constant s x (left s (names_in x) (names_in y) f)) (constant s y (right s (names_in x) (names_in y) f))
  constant s (conditional c x y) f =
      let g = left s (names_in c ++ names_in x) (names_in y) f in
      both (is_constant s c) (is_constant s x && is_constant s y) (constant s c (left s (names_in c) (names_in x) g))
      (both (is_constant s x) (is_constant s y) (constant s x (right s (names_in c) (names_in x) g))
      (constant s y (right s (names_in c ++ names_in x) (names_in y) f)))

  all_constant : (s : Scope) (es : Expressions) → AllNumbers s (names_in_all es) → IsTrue (are_constant s es)
  all_constant s no_expressions f = refl
  all_constant s (expression e es) f =
      both (is_constant s e) (are_constant s es) (constant s e (left s (names_in e) (names_in_all es) f))
      (all_constant s es (right s (names_in e) (names_in_all es) f))

  select_constant : (s : Scope) (x : Select) → AllNumbers s (names_in_select x) → IsTrue (select_is_constant s x)
  select_constant s (index i) f = constant s i f
  select_constant s (part h l) f = refl
  select_constant s (part_up b n) f = constant s b (left s (names_in b) (names_in n) f)
  select_constant s (part_down b n) f = constant s b (left s (names_in b) (names_in n) f)

  selects_constant : (s : Scope) (x : Selects) → AllNumbers s (names_in_selects x) → IsTrue (selects_are_constant s x)
  selects_constant s whole f = refl
  selects_constant s (one x) f = select_constant s x f
  selects_constant s (two x y) f =
      both (select_is_constant s x) (select_is_constant s y) (select_constant s x (left s (names_in_select x) (names_in_select y) f))
      (select_constant s y (right s (names_in_select x) (names_in_select y) f))

mutual
  pub target_constant : (s : Scope) (t : Target) → AllNumbers s (index_names t) → IsTrue (has_constant_selects s t)
  target_constant s (place n x) f = selects_constant s x f
  target_constant s (joined ts) f = targets_constant s ts f

  targets_constant : (s : Scope) (ts : Targets) → AllNumbers s (index_names_in_all ts) → IsTrue (all_have_constant_selects s ts)
  targets_constant s no_targets f = refl
  targets_constant s (target t ts) f =
      both (has_constant_selects s t) (all_have_constant_selects s ts) (target_constant s t (left s (index_names t) (index_names_in_all ts) f))
      (targets_constant s ts (right s (index_names t) (index_names_in_all ts) f))

-- ---- the names in the indexes of a target

-- names that are all among others
abbrev pub Within : List Name → List Name → Type 0
Within ns ms = (n : Name) → IsAmong ns n → IsAmong ms n

pair : (ns ms ks ls : List Name) → Within ns ks → Within ms ls → Within (ns ++ ms) (ks ++ ls)
pair ns ms ks ls f g n h =
    elim (among_either ns ms n h) as (λ _. IsAmong (ks ++ ls) n) [ inl k ↦ among_left ks ls n (f n k) | inr k ↦ among_right ks ls n (g n k) ]

mutual
  pub as_target_named : (e : Expression) (t : Target) → as_target e ≡ Some t → Within (index_names t) (names_in e)
  as_target_named (number k) t h = cc
  as_target_named (name n x) t h =
      let same : place n x ≡ t = cc in subst (λ y. Within (index_names y) (n ∷ names_in_selects x)) same (λ m k. among_right (n ∷ []) (names_in_selects x) m k)
  as_target_named (concatenation es) t h =
      let f = from_map joined (all_as_targets es) t h in subst (λ y. Within (index_names y) (names_in_all es)) f.2 (all_targets_named es f.0 f.1)
  as_target_named (replication k es) t h = cc
  as_target_named (as_signed x) t h = cc
  as_target_named (as_unsigned x) t h = cc
  as_target_named (unary op x) t h = cc
  as_target_named (reduction op x) t h = cc
  as_target_named (binary op x y) t h = cc
  as_target_named (shift op x n) t h = cc
  as_target_named (power x n) t h = cc
  as_target_named (comparison op x y) t h = cc
  as_target_named (logical op x y) t h = cc
  as_target_named (conditional c x y) t h = cc

  all_targets_named : (es : Expressions) (ts : Targets) → all_as_targets es ≡ Some ts → Within (index_names_in_all ts) (names_in_all es)
  all_targets_named no_expressions ts h =
      let same : no_targets ≡ ts = cc in subst (λ y. Within (index_names_in_all y) []) same (λ m k. k)
  all_targets_named (expression e es) ts h =
      let f = from_chain (λ t. option_map (target t) (all_as_targets es)) (as_target e) ts h in
      let g = from_map (target f.0) (all_as_targets es) ts f.2 in
      subst (λ y. Within (index_names_in_all y) (names_in e ++ names_in_all es)) g.2
      (pair (index_names f.0) (index_names_in_all g.0) (names_in e) (names_in_all es) (as_target_named e f.0 f.1) (all_targets_named es g.0 g.1))

-- ---- where they stand among the names that must be constant

assigned : (ts : List (Target × Expression)) (a : Target × Expression) → IsAmong ts a → Within (index_names a.0) (constant_names_in_assignments ts)
assigned [] a h n k = absurd h
assigned (t ∷ ts) a (inl e) n k =
    among_left (index_names t.0 ++ constant_names t.1) (constant_names_in_assignments ts) n
    (among_left (index_names t.0) (constant_names t.1) n (subst (λ (b : Target × Expression). IsAmong (index_names b.0) n) (sym e) k))
assigned (t ∷ ts) a (inr h) n k =
    among_right (index_names t.0 ++ constant_names t.1) (constant_names_in_assignments ts) n (assigned ts a h n k)

pub in_assignments : (source : Source) (items : List Item) (a : Target × Expression) → IsAmong (assignments items) a
    → Within (index_names a.0) (constant_names_in_module_items source items)
in_assignments source [] a h n k = absurd h
in_assignments source (port d ∷ items) a h n k =
    among_right (constant_names_in_item source (port d)) (constant_names_in_module_items source items) n (in_assignments source items a h n k)
in_assignments source (parameter d ∷ items) a h n k =
    among_right (constant_names_in_item source (parameter d)) (constant_names_in_module_items source items) n (in_assignments source items a h n k)
in_assignments source (wires signed r ws ∷ items) a h n k =
    elim (among_either (wire_assignments ws) (assignments items) a h)
    as (λ _. IsAmong (constant_names_in_module_items source (wires signed r ws ∷ items)) n) [
      | inl g ↦ absurd (wire_indexes ws a g n k)
      | inr g ↦ among_right (constant_names_in_item source (wires signed r ws)) (constant_names_in_module_items source items) n (in_assignments source items a g n k)
    ]
in_assignments source (variables signed r vs ∷ items) a h n k =
    among_right (constant_names_in_item source (variables signed r vs)) (constant_names_in_module_items source items) n (in_assignments source items a h n k)
in_assignments source (assign ts ∷ items) a h n k =
    elim (among_either ts (assignments items) a h) as (λ _. IsAmong (constant_names_in_module_items source (assign ts ∷ items)) n) [
      | inl g ↦ among_left (constant_names_in_item source (assign ts)) (constant_names_in_module_items source items) n (assigned ts a g n k)
      | inr g ↦ among_right (constant_names_in_item source (assign ts)) (constant_names_in_module_items source items) n (in_assignments source items a g n k)
    ]
in_assignments source (always es x ∷ items) a h n k =
    among_right (constant_names_in_item source (always es x)) (constant_names_in_module_items source items) n (in_assignments source items a h n k)
in_assignments source (instances m given is ∷ items) a h n k =
    among_right (constant_names_in_item source (instances m given is)) (constant_names_in_module_items source items) n (in_assignments source items a h n k)

pub in_connection : (below : Module) (c : Connection) (t : Target) → is_output (port_direction below (port_meant below c.to_port)) ≡ true
    → as_target c.expression ≡ Some t → Within (index_names t) (constant_names_in_connection (Some below) c)
in_connection below c t is_out e n h =
    subst (λ b. IsAmong (cond b (constant_names_in_output c.expression (as_target c.expression)) (constant_names c.expression)) n) (sym is_out)
    (subst (λ x. IsAmong (constant_names_in_output c.expression x) n) (sym e) h)

pub in_connections : (below : Option Module) (cs : List Connection) (c : Connection) → IsAmong cs c
    → Within (constant_names_in_connection below c) (constant_names_in_connections below cs)
in_connections below [] c h n k = absurd h
in_connections below (x ∷ cs) c (inl e) n k =
    among_left (constant_names_in_connection below x) (constant_names_in_connections below cs) n
    (subst (λ (y : Connection). IsAmong (constant_names_in_connection below y) n) (sym e) k)
in_connections below (x ∷ cs) c (inr h) n k =
    among_right (constant_names_in_connection below x) (constant_names_in_connections below cs) n (in_connections below cs c h n k)

pub in_instances : (below : Option Module) (is : List (Name × Connections)) (i : Name × Connections) → IsAmong is i
    → Within (constant_names_in_connections below (instance_connections i.0 i.1)) (constant_names_in_instances below is)
in_instances below [] i h n k = absurd h
in_instances below (x ∷ is) i (inl e) n k =
    among_left (constant_names_in_connections below (instance_connections x.0 x.1)) (constant_names_in_instances below is) n
    (subst (λ (y : Name × Connections). IsAmong (constant_names_in_connections below (instance_connections y.0 y.1)) n) (sym e) k)
in_instances below (x ∷ is) i (inr h) n k =
    among_right (constant_names_in_connections below (instance_connections x.0 x.1)) (constant_names_in_instances below is) n (in_instances below is i h n k)

pub in_item : (source : Source) (items : List Item) (i : Item) → IsAmong items i → Within (constant_names_in_item source i) (constant_names_in_module_items source items)
in_item source [] i h n k = absurd h
in_item source (x ∷ items) i (inl e) n k =
    among_left (constant_names_in_item source x) (constant_names_in_module_items source items) n
    (subst (λ (y : Item). IsAmong (constant_names_in_item source y) n) (sym e) k)
in_item source (x ∷ items) i (inr h) n k =
    among_right (constant_names_in_item source x) (constant_names_in_module_items source items) n (in_item source items i h n k)

-- ---- the module at a path, with those of its parameters that have values

-- the module that an instance is, and the top, so
abbrev known_placed : List PathStep → Scope → Instance → Module → Placed
known_placed path known i m = record { path = path; of_module = m; constants = known_constants m (known_overrides known i.parameters m) }

abbrev known_top : Module → Placed
known_top m = record { path = []; of_module = m; constants = known_constants m (λ n. None) }

known_of_instance : (source : Source) (path known_path : List PathStep) (s known : Scope) (i : Instance) (p : Placed) → placed_instance source path s i ≡ Some p
    → (q : Placed) × (known_instance source known_path known i ≡ Some q) × (q.of_module ≡ p.of_module)
known_of_instance source path known_path s known i p e =
    let f = instance_from source path s i p e in
    (known_placed known_path known i f.0, ap (option_map (known_placed known_path known i)) f.1, ap (λ (q : Placed). q.of_module) f.2)

pub is_known : (d : Design) (path : List PathStep) (p : Placed) → at_path d path ≡ Some p
    → (q : Placed) × (known_at d.source d.top path ≡ Some q) × (q.of_module ≡ p.of_module)
is_known d [] p e =
    let f = top_from d p e in
    (known_top f.0, ap (option_map known_top) f.1, ap (λ (q : Placed). q.of_module) f.2)
is_known d (u ∷ around) p e =
    let s : StepsTo d u around p = step_of d u around p e in
    let f = is_known d around s.outer s.is_outer in
    let g = known_of_instance d.source (u ∷ s.outer.path) (u ∷ f.0.path) (placed_scope s.outer) (known_scope f.0) s.instance p s.is_placed in
    let reached : instance_reached f.0.of_module.items u ≡ Some s.instance = subst (λ (m : Module). instance_reached m.items u ≡ Some s.instance) (sym f.2) s.is_reached in (
      g.0,
      ap (option_and_then (known_below d.source u)) f.1 ∙ ap (option_and_then (known_instance d.source (u ∷ f.0.path) (known_scope f.0))) reached ∙ g.1,
      g.2,
    )

-- ---- a name that must be constant is that of a parameter

pub parameter_if_constant : (source : Source) (m : Module) (n : Name) → has_net_as_constant source m ≡ false → IsAmong (constant_names_in_module source m) n
    → IsKnownIn m n → IsTrue (is_among (parameter_names (all_parameters m)) n)
parameter_if_constant source m n e h (inr k) = k
parameter_if_constant source m n e h (inl k) =
    no_net (is_declared_among (declarations m) n) (is_among (parameter_names (all_parameters m)) n) k
    (any_false (is_net m) (constant_names_in_module source m) n e h)
  where
    no_net : (a b : Bool) → IsTrue a → (a && not b) ≡ false → IsTrue b
    no_net true true t f = refl
    no_net true false t f = cc
    no_net false b t f = cc
