-- Whether a net stands where a constant must, told by the rule on constants in two scopes: one that says what the names of a module
-- stand for, and one in which all its nets are declared, also those whose ranges have no value.
use Rattle.std.proofs.Common.{◌≡◌, ℕ, ◌+◌, ◌∙◌, ◌⊎◌, inl, inr, option_map, refl, sym, ap, Bool, true, false, cond, ◌&&◌, ◌||◌, List, [], ◌∷◌, ◌++◌, Option, Some, None, pos}
use Rattle.std.proofs.lemmas.Bool.{false≢true}
use Rattle.std.specs.List.{list_any}
use Rattle.wb_values.specs.Value.{Name}
use Rattle.wb_values.specs.Choice.{some_if}
use Rattle.verilog_trees.specs.Syntax.{Connections, by_name as by_names, by_order, ParameterDeclaration, Module, Expression, number, name, concatenation, replication, as_signed, as_unsigned, unary, reduction, binary, shift, power, comparison, logical, conditional, Expressions, no_expressions, expression, Select, index, part, part_up, part_down, Selects, whole, one, two, Target, place, joined, Targets, no_targets, target, CaseKind, Statement, empty, blocking, nonblocking, if_then, if_else, case, block, Statements, no_statements, statement, CaseItems, no_items, arm, default_arm, Event, Events, any_change, on_events, Range, PortDeclaration, Item, port, parameter, wires, variables, assign, always, instances, Source}
use Rattle.verilog_meaning.specs.Expression.{Object, Scope, is_memory, distance, width_of, widths_of, sign_of}
use Rattle.verilog_meaning.specs.Hierarchy.{module_named}
use Rattle.verilog_meaning.specs.Settled.{as_target, Connection, instance_connections, port_meant}
use Rattle.verilog_meaning.specs.Statement.{targets_width}
use Rattle.verilog_meaning.specs.Register.{is_clocked}
use Rattle.verilog_rules.specs.Expression.{Broken, nothing, anywhere, constant, wider, has_width, is_below, by_total, copies, is_unsized, divides, broken, broken_parts, broken_selects, broken_select, broken_bits, have_widths, broken_constant, constant_number}
use Rattle.verilog_designs.specs.Names.{names_in, names_in_select, names_in_selects, names_in_range, names_in_values, names_in_parameters, names_in_ports, names_in_addresses, names_in_named, names_in_ordered, names_in_connections}
use Rattle.verilog_designs.specs.Constants.{constant_names, constant_names_in_all, constant_names_in_select, constant_names_in_selects, constant_names_in_target, constant_names_in_targets, index_names, index_names_in_all, constant_names_in_statement, constant_names_in_statements, constant_names_in_items, constant_names_in_initial, constant_names_in_assignments, constant_names_in_output, constant_names_in_connection, constant_names_in_connections, constant_names_in_instances, constant_names_in_item, constant_names_in_module_items}
use Rattle.verilog_designs.specs.Expressions.{is_outside, broken_bound, broken_range, broken_ports, targets_have_width, broken_target, broken_targets, by_constants, broken_item, broken_items, broken_block_target, broken_statement, broken_statements, broken_arms, broken_event_list, broken_events, broken_assignments, broken_initial_values, broken_addresses, broken_values, broken_width, broken_parameters, broken_header, broken_output, broken_connection, broken_connections, broken_instances, broken_named_values, broken_ordered_values, broken_overrides, broken_module_item, broken_module_items}
use Rattle.verilog_designs.specs.Known.{as_bound, both_bounds, known_range_width, value_position}
use Rattle.verilog_designs.specs.Ports.{is_output, port_direction}
use Rattle.verilog_exists.proofs.Scopes.{SameIn}
use Rattle.v_sound.specs.Alike.{IsNet}
use Rattle.v_sound.proofs.Widths.{total-bad, bits-bad, or-nothing-bad}
use Rattle.v_sound.proofs.Constants.{neither, or-left, or-right, either, any-append, net-within, net-in-constant, same-constant, same-rules, same-number}

-- Where the rule is not broken in the first scope, it is broken in the second exactly where z holds.
pub record IsTold (x y z : Bool) : Type 0 where
  pub told : (x || y) ≡ (x || z)

both-told : (x y z a b c : Bool) → (x || y) ≡ (x || z) → (a || b) ≡ (a || c) → ((x || a) || (y || b)) ≡ ((x || a) || (z || c))
both-told true y z a b c h g = refl
both-told false y z true b c h g = refl
both-told false y z false b c h g = ap (λ k. k || b) h ∙ ap (λ k. z || k) g

told-or : {x y z a b c : Bool} → IsTold x y z → IsTold a b c → IsTold (x || a) (y || b) (z || c)
told-or {x} {y} {z} {a} {b} {c} h g = record { told = both-told x y z a b c h.told g.told }

twice : (x : Bool) → x || x ≡ x || false
twice true = refl
twice false = refl

or-false : (z : Bool) → z || false ≡ z
or-false true = refl
or-false false = refl

and-false : (b : Bool) → b && false ≡ false
and-false true = refl
and-false false = refl

told-by : (x y z : Bool) → (z ≡ true → y ≡ true) → (z ≡ false → y ≡ x) → IsTold x y z
told-by x y true f g = record { told = ap (λ b. x || b) (f refl) }
told-by x y false f g = record { told = ap (λ b. x || b) (g refl) ∙ twice x }

-- the same in both, and no net
told-same : (x : Bool) → IsTold x x false
told-same x = record { told = twice x }

told-none : {x y : Bool} → x ≡ false → y ≡ false → IsTold x y false
told-none {x} {y} h g = record { told = ap (λ b. x || b) g }

told-true : (z : Bool) → IsTold true true z
told-true z = record { told = refl }

told-moved : {x y z v : Bool} → z ≡ v → IsTold x y z → IsTold x y v
told-moved {x} {y} {z} {v} e h = record { told = h.told ∙ ap (λ b. x || b) e }

module _ (s t : Scope) (k : Name → Bool) (same : (n : Name) → k n ≡ false → s n ≡ t n) (nets : (n : Name) → k n ≡ true → IsNet (t n)) where
  pub told-append : {x y a b : Bool} (ns ms : List Name) → IsTold x y (list_any k ns) → IsTold a b (list_any k ms) → IsTold (x || a) (y || b) (list_any k (ns ++ ms))
  told-append ns ms h g = told-moved (sym (any-append k ns ms)) (told-or h g)

  or-assoc : (a b c : Bool) → (a || b) || c ≡ a || (b || c)
  or-assoc true b c = refl
  or-assoc false b c = refl

  told-three : {x y a b c d : Bool} (ns ms ls : List Name) → IsTold x y (list_any k ns) → IsTold a b (list_any k ms) → IsTold c d (list_any k ls)
      → IsTold (x || (a || c)) (y || (b || d)) (list_any k ((ns ++ ms) ++ ls))
  told-three ns ms ls h g f =
      told-moved (sym (any-append k (ns ++ ms) ls ∙ ap (λ b. b || list_any k ls) (any-append k ns ms) ∙ or-assoc (list_any k ns) (list_any k ms) (list_any k ls))) (told-or h (told-or g f))

  told-constant : (e : Expression) → IsTold (broken_constant s e).bad_constant (broken_constant t e).bad_constant (list_any k (names_in e))
  told-constant e = told-by (broken_constant s e).bad_constant (broken_constant t e).bad_constant (list_any k (names_in e))
      (λ h. net-in-constant t k nets e h) (λ h. sym (ap (λ (b : Broken). b.bad_constant) (same-rules s t k same e h)))

  told-counted : (e : Expression) → IsTold (is_below (pos 1) (constant_number s e) || (broken_constant s e).bad_constant) (is_below (pos 1) (constant_number t e) || (broken_constant t e).bad_constant) (list_any k (names_in e))
  told-counted e = told-by (is_below (pos 1) (constant_number s e) || (broken_constant s e).bad_constant) (is_below (pos 1) (constant_number t e) || (broken_constant t e).bad_constant) (list_any k (names_in e))
      (λ h. or-right (is_below (pos 1) (constant_number t e)) (broken_constant t e).bad_constant (net-in-constant t k nets e h))
      (λ h. sym (ap (λ z. is_below (pos 1) z || (broken_constant s e).bad_constant) (same-number s t k same e h) ∙ ap (λ (b : Broken). is_below (pos 1) (constant_number t e) || b.bad_constant) (same-rules s t k same e h)))

  told-bits : (o q : Object) (x : Select) → IsTold (broken_bits s o x).bad_constant (broken_bits t q x).bad_constant false
  told-bits o q x = told-none (bits-bad s o x) (bits-bad t q x)

  told-bits-or-none : (o q : Object) (x : Select) → IsTold (cond (is_memory o) nothing (broken_bits s o x)).bad_constant (cond (is_memory q) nothing (broken_bits t q x)).bad_constant false
  told-bits-or-none o q x = told-none (or-nothing-bad (is_memory o) (broken_bits s o x) (bits-bad s o x)) (or-nothing-bad (is_memory q) (broken_bits t q x) (bits-bad t q x))

  told-totals : (a b : Option ℕ) → IsTold (by_total a).bad_constant (by_total b).bad_constant false
  told-totals a b = told-none (total-bad a) (total-bad b)

  mutual
    told-expression : (e : Expression) → IsTold (broken s anywhere e).bad_constant (broken t anywhere e).bad_constant (list_any k (constant_names e))
    told-expression (number j) = told-same false
    told-expression (name n x) = told-or (told-none (and-false (s n).is_declared) (and-false (t n).is_declared)) (told-selects (s n) (t n) x)
    told-expression (concatenation es) = told-or (told-totals (some_if (have_widths s es) (widths_of s es)) (some_if (have_widths t es) (widths_of t es))) (told-parts es)
    told-expression (replication c es) =
        told-append (names_in c) (constant_names_in_all es) (told-counted c)
        (told-or (told-totals (copies (constant_number s c) (some_if (have_widths s es) (widths_of s es))) (copies (constant_number t c) (some_if (have_widths t es) (widths_of t es)))) (told-parts es))
    told-expression (as_signed x) = told-expression x
    told-expression (as_unsigned x) = told-expression x
    told-expression (unary op x) = told-expression x
    told-expression (reduction op x) = told-expression x
    told-expression (binary op x y) = told-append (constant_names x) (constant_names y) (told-expression x) (told-or (told-same (divides op && true)) (told-expression y))
    told-expression (shift op x n) = told-append (constant_names x) (constant_names n) (told-expression x) (told-expression n)
    told-expression (power x n) = told-append (constant_names x) (constant_names n) (told-expression x) (told-true (list_any k (constant_names n)))
    told-expression (comparison op x y) = told-append (constant_names x) (constant_names y) (told-expression x) (told-expression y)
    told-expression (logical op x y) = told-append (constant_names x) (constant_names y) (told-expression x) (told-expression y)
    told-expression (conditional c x y) =
        told-append (constant_names c ++ constant_names x) (constant_names y) (told-append (constant_names c) (constant_names x) (told-expression c) (told-expression x)) (told-expression y)

    told-parts : (es : Expressions) → IsTold (broken_parts s anywhere es).bad_constant (broken_parts t anywhere es).bad_constant (list_any k (constant_names_in_all es))
    told-parts no_expressions = told-same false
    told-parts (expression e es) = told-append (constant_names e) (constant_names_in_all es) (told-or (told-same (is_unsized e)) (told-expression e)) (told-parts es)

    told-selects : (o q : Object) (x : Selects) → IsTold (broken_selects s anywhere o x).bad_constant (broken_selects t anywhere q x).bad_constant (list_any k (constant_names_in_selects x))
    told-selects o q whole = told-same false
    told-selects o q (one x) = told-moved (or-false (list_any k (constant_names_in_select x))) (told-or (told-select x) (told-bits-or-none o q x))
    told-selects o q (two x y) =
        told-append (constant_names_in_select x) (constant_names_in_select y) (told-select x)
        (told-moved (or-false (list_any k (constant_names_in_select y))) (told-or (told-select y) (told-bits o q y)))

    told-select : (x : Select) → IsTold (broken_select s anywhere x).bad_constant (broken_select t anywhere x).bad_constant (list_any k (constant_names_in_select x))
    told-select (index i) = told-expression i
    told-select (part h l) = told-append (names_in h) (names_in l) (told-constant h) (told-constant l)
    told-select (part_up b n) = told-append (constant_names b) (names_in n) (told-expression b) (told-counted n)
    told-select (part_down b n) = told-append (constant_names b) (names_in n) (told-expression b) (told-counted n)

  -- where indexes are constants
  told-index : (x : Select) → IsTold (broken_select s by_constants x).bad_constant (broken_select t by_constants x).bad_constant (list_any k (names_in_select x))
  told-index (index i) = told-constant i
  told-index (part h l) = told-append (names_in h) (names_in l) (told-constant h) (told-constant l)
  told-index (part_up b n) = told-append (names_in b) (names_in n) (told-constant b) (told-counted n)
  told-index (part_down b n) = told-append (names_in b) (names_in n) (told-constant b) (told-counted n)

  told-indexes : (o q : Object) (x : Selects) → IsTold (broken_selects s by_constants o x).bad_constant (broken_selects t by_constants q x).bad_constant (list_any k (names_in_selects x))
  told-indexes o q whole = told-same false
  told-indexes o q (one x) = told-moved (or-false (list_any k (names_in_select x))) (told-or (told-index x) (told-bits-or-none o q x))
  told-indexes o q (two x y) =
      told-append (names_in_select x) (names_in_select y) (told-index x) (told-moved (or-false (list_any k (names_in_select y))) (told-or (told-index y) (told-bits o q y)))

  told-range : (r : Option Range) → IsTold (broken_range s r).bad_constant (broken_range t r).bad_constant (list_any k (names_in_range r))
  told-range None = told-same false
  told-range (Some r) = told-append (names_in r.left) (names_in r.right) (told-bound r.left) (told-bound r.right)
    where
      told-bound : (e : Expression) → IsTold (broken_bound s e).bad_constant (broken_bound t e).bad_constant (list_any k (names_in e))
      told-bound e = told-by (broken_bound s e).bad_constant (broken_bound t e).bad_constant (list_any k (names_in e))
          (λ h. or-right (is_outside (constant_number t e)) (broken_constant t e).bad_constant (net-in-constant t k nets e h))
          (λ h. sym (ap (λ z. is_outside z || (broken_constant s e).bad_constant) (same-number s t k same e h) ∙ ap (λ (b : Broken). is_outside (constant_number t e) || b.bad_constant) (same-rules s t k same e h)))

  pub told-ports : (ds : List PortDeclaration) → IsTold (broken_ports s ds).bad_constant (broken_ports t ds).bad_constant (list_any k (names_in_ports ds))
  told-ports [] = told-same false
  told-ports (d ∷ ds) = told-append (names_in_range d.range) (names_in_ports ds) (told-range d.range) (told-ports ds)

  -- ---- targets

  mutual
    told-target : (x : Target) → IsTold (broken_target s anywhere x).bad_constant (broken_target t anywhere x).bad_constant (list_any k (constant_names_in_target x))
    told-target (place n x) = told-or (told-none (and-false (s n).is_declared) (and-false (t n).is_declared)) (told-selects (s n) (t n) x)
    told-target (joined xs) = told-or (told-totals (some_if (targets_have_width s xs) (targets_width s xs)) (some_if (targets_have_width t xs) (targets_width t xs))) (told-targets xs)

    told-targets : (xs : Targets) → IsTold (broken_targets s anywhere xs).bad_constant (broken_targets t anywhere xs).bad_constant (list_any k (constant_names_in_targets xs))
    told-targets no_targets = told-same false
    told-targets (target x xs) = told-append (constant_names_in_target x) (constant_names_in_targets xs) (told-target x) (told-targets xs)

  mutual
    told-net : (x : Target) → IsTold (broken_target s by_constants x).bad_constant (broken_target t by_constants x).bad_constant (list_any k (index_names x))
    told-net (place n x) = told-or (told-none (and-false (s n).is_declared) (and-false (t n).is_declared)) (told-indexes (s n) (t n) x)
    told-net (joined xs) = told-or (told-totals (some_if (targets_have_width s xs) (targets_width s xs)) (some_if (targets_have_width t xs) (targets_width t xs))) (told-nets xs)

    told-nets : (xs : Targets) → IsTold (broken_targets s by_constants xs).bad_constant (broken_targets t by_constants xs).bad_constant (list_any k (index_names_in_all xs))
    told-nets no_targets = told-same false
    told-nets (target x xs) = told-append (index_names x) (index_names_in_all xs) (told-net x) (told-nets xs)

  told-block : (c : Bool) (x : Target) → IsTold (broken_block_target s c x).bad_constant (broken_block_target t c x).bad_constant (list_any k (constant_names_in_target x))
  told-block true x = told-target x
  told-block false x = told-target x

  -- ---- statements

  told-value : (kind : CaseKind) (e : Expression) → IsTold (broken_item s kind e).bad_constant (broken_item t kind e).bad_constant (list_any k (constant_names e))
  told-value kind (number j) = told-same false
  told-value kind (name n x) = told-expression (name n x)
  told-value kind (concatenation es) = told-expression (concatenation es)
  told-value kind (replication c es) = told-expression (replication c es)
  told-value kind (as_signed x) = told-expression (as_signed x)
  told-value kind (as_unsigned x) = told-expression (as_unsigned x)
  told-value kind (unary op x) = told-expression (unary op x)
  told-value kind (reduction op x) = told-expression (reduction op x)
  told-value kind (binary op x y) = told-expression (binary op x y)
  told-value kind (shift op x n) = told-expression (shift op x n)
  told-value kind (power x n) = told-expression (power x n)
  told-value kind (comparison op x y) = told-expression (comparison op x y)
  told-value kind (logical op x y) = told-expression (logical op x y)
  told-value kind (conditional c x y) = told-expression (conditional c x y)

  told-values : (kind : CaseKind) (es : Expressions) → IsTold (broken_items s kind es).bad_constant (broken_items t kind es).bad_constant (list_any k (constant_names_in_all es))
  told-values kind no_expressions = told-same false
  told-values kind (expression e es) = told-append (constant_names e) (constant_names_in_all es) (told-value kind e) (told-values kind es)

  mutual
    told-statement : (c : Bool) (x : Statement) → IsTold (broken_statement s c x).bad_constant (broken_statement t c x).bad_constant (list_any k (constant_names_in_statement x))
    told-statement c empty = told-same false
    told-statement c (blocking x e) = told-append (constant_names_in_target x) (constant_names e) (told-block c x) (told-expression e)
    told-statement c (nonblocking x e) = told-append (constant_names_in_target x) (constant_names e) (told-block c x) (told-expression e)
    told-statement c (if_then e x) = told-append (constant_names e) (constant_names_in_statement x) (told-expression e) (told-statement c x)
    told-statement c (if_else e x y) =
        told-three (constant_names e) (constant_names_in_statement x) (constant_names_in_statement y) (told-expression e) (told-statement c x) (told-statement c y)
    told-statement c (case kind e items) = told-append (constant_names e) (constant_names_in_items items) (told-expression e) (told-arms c kind items)
    told-statement c (block n xs) = told-statements c xs

    told-statements : (c : Bool) (xs : Statements) → IsTold (broken_statements s c xs).bad_constant (broken_statements t c xs).bad_constant (list_any k (constant_names_in_statements xs))
    told-statements c no_statements = told-same false
    told-statements c (statement x xs) = told-append (constant_names_in_statement x) (constant_names_in_statements xs) (told-statement c x) (told-statements c xs)

    told-arms : (c : Bool) (kind : CaseKind) (items : CaseItems) → IsTold (broken_arms s c kind items).bad_constant (broken_arms t c kind items).bad_constant (list_any k (constant_names_in_items items))
    told-arms c kind no_items = told-same false
    told-arms c kind (arm es x items) =
        told-three (constant_names_in_all es) (constant_names_in_statement x) (constant_names_in_items items) (told-values kind es) (told-statement c x) (told-arms c kind items)
    told-arms c kind (default_arm x items) = told-append (constant_names_in_statement x) (constant_names_in_items items) (told-statement c x) (told-arms c kind items)

  -- ---- items

  event_list-bad : (q : Scope) (es : List Event) → (broken_event_list q es).bad_constant ≡ false
  event_list-bad q [] = refl
  event_list-bad q (e ∷ es) = event_list-bad q es

  events-bad : (q : Scope) (es : Events) → (broken_events q es).bad_constant ≡ false
  events-bad q any_change = refl
  events-bad q (on_events es) = event_list-bad q es

  told-assignments : (xs : List (Target × Expression)) → IsTold (broken_assignments s xs).bad_constant (broken_assignments t xs).bad_constant (list_any k (constant_names_in_assignments xs))
  told-assignments [] = told-same false
  told-assignments (x ∷ xs) =
      told-append (index_names x.0 ++ constant_names x.1) (constant_names_in_assignments xs) (told-append (index_names x.0) (constant_names x.1) (told-net x.0) (told-expression x.1)) (told-assignments xs)

  told-initial : (ws : List (Name × Option Expression)) → IsTold (broken_initial_values s ws).bad_constant (broken_initial_values t ws).bad_constant (list_any k (constant_names_in_initial ws))
  told-initial [] = told-same false
  told-initial ((n, None) ∷ ws) = told-initial ws
  told-initial ((n, Some e) ∷ ws) = told-append (constant_names e) (constant_names_in_initial ws) (told-expression e) (told-initial ws)

  told-addresses : (vs : List (Name × Option Range)) → IsTold (broken_addresses s vs).bad_constant (broken_addresses t vs).bad_constant (list_any k (names_in_addresses vs))
  told-addresses [] = told-same false
  told-addresses (v ∷ vs) = told-append (names_in_range v.1) (names_in_addresses vs) (told-range v.1) (told-addresses vs)

  -- ---- parameters

  in-either : (ns ms : List Name) → list_any k (ns ++ ms) ≡ true → (list_any k ns ≡ true) ⊎ (list_any k ms ≡ true)
  in-either ns ms h = either (list_any k ns) (list_any k ms) (sym (any-append k ns ms) ∙ h)

  in-neither : (ns ms : List Name) → list_any k (ns ++ ms) ≡ false → (list_any k ns ≡ false) × (list_any k ms ≡ false)
  in-neither ns ms h = neither (list_any k ns) (list_any k ms) (sym (any-append k ns ms) ∙ h)

  net-in-bound : (e : Expression) → list_any k (names_in e) ≡ true → (broken_bound t e).bad_constant ≡ true
  net-in-bound e h = or-right (is_outside (constant_number t e)) (broken_constant t e).bad_constant (net-in-constant t k nets e h)

  net-in-range : (r : Option Range) → list_any k (names_in_range r) ≡ true → (broken_range t r).bad_constant ≡ true
  net-in-range None h = absurd (false≢true h)
  net-in-range (Some r) h = elim (in-either (names_in r.left) (names_in r.right) h) as (λ _. (broken_range t (Some r)).bad_constant ≡ true) [
    | inl a ↦ or-left (broken_bound t r.left).bad_constant (broken_bound t r.right).bad_constant (net-in-bound r.left a)
    | inr a ↦ or-right (broken_bound t r.left).bad_constant (broken_bound t r.right).bad_constant (net-in-bound r.right a)
  ]

  net-in-value : (r : Option Range) (e : Expression) → list_any k (names_in e) ≡ true → (broken t (value_position t r e) e).bad_constant ≡ true
  net-in-value None e h = net-in-constant t k nets e h
  net-in-value (Some r) e h = net-within t k nets e h (wider (known_range_width t r) (some_if (has_width t e) (width_of t e))) (sign_of t e)

  net-in-values : (r : Option Range) (vs : List (Name × Expression)) → list_any k (names_in_values vs) ≡ true → (broken_values t r vs).bad_constant ≡ true
  net-in-values r [] h = absurd (false≢true h)
  net-in-values r (v ∷ vs) h = elim (in-either (names_in v.1) (names_in_values vs) h) as (λ _. (broken_values t r (v ∷ vs)).bad_constant ≡ true) [
    | inl a ↦ or-left (broken t (value_position t r v.1) v.1).bad_constant (broken_values t r vs).bad_constant (net-in-value r v.1 a)
    | inr a ↦ or-right (broken t (value_position t r v.1) v.1).bad_constant (broken_values t r vs).bad_constant (net-in-values r vs a)
  ]

  same-bound : (e : Expression) → list_any k (names_in e) ≡ false → (broken_bound s e).bad_constant ≡ (broken_bound t e).bad_constant
  same-bound e h = λ i. is_outside (same-number s t k same e h i) || (same-rules s t k same e h i).bad_constant

  same-range : (r : Option Range) → list_any k (names_in_range r) ≡ false → (broken_range s r).bad_constant ≡ (broken_range t r).bad_constant
  same-range None h = refl
  same-range (Some r) h =
      let p = in-neither (names_in r.left) (names_in r.right) h in
      λ i. same-bound r.left p.0 i || same-bound r.right p.1 i

  same-width : (r : Range) → list_any k (names_in_range (Some r)) ≡ false → known_range_width s r ≡ known_range_width t r
  same-width r h =
      let p = in-neither (names_in r.left) (names_in r.right) h in
      λ i. option_map (λ b. distance b.0 b.1 + 1) (both_bounds (as_bound (same-number s t k same r.left p.0 i)) (as_bound (same-number s t k same r.right p.1 i)))

  same-value : (r : Option Range) (e : Expression) → list_any k (names_in_range r) ≡ false → list_any k (names_in e) ≡ false
      → broken s (value_position s r e) e ≡ broken t (value_position t r e) e
  same-value None e g h = same-rules s t k same e h
  same-value (Some r) e g h =
      let q : SameIn s t e = same-constant s t k same e h in
      q.rules (value_position s (Some r) e) ∙ (λ i. broken t (constant (wider (same-width r g i) (some_if (q.has i) (q.width i))) (q.sign i)) e)

  same-values : (r : Option Range) (vs : List (Name × Expression)) → list_any k (names_in_range r) ≡ false → list_any k (names_in_values vs) ≡ false
      → (broken_values s r vs).bad_constant ≡ (broken_values t r vs).bad_constant
  same-values r [] g h = refl
  same-values r (v ∷ vs) g h =
      let p = in-neither (names_in v.1) (names_in_values vs) h in
      λ i. (same-value r v.1 g p.0 i).bad_constant || same-values r vs g p.1 i

  width-bad : (q : Scope) (r : Option Range) → (broken_width q r).bad_constant ≡ false
  width-bad q None = refl
  width-bad q (Some r) = refl

  -- the values rest on the range, so both are told together
  told-parameters : (d : ParameterDeclaration) → IsTold (broken_parameters s d).bad_constant (broken_parameters t d).bad_constant (list_any k (names_in_range d.range ++ names_in_values d.values))
  told-parameters d = told-by (broken_parameters s d).bad_constant (broken_parameters t d).bad_constant (list_any k (names_in_range d.range ++ names_in_values d.values)) found not-found
    where
      found : list_any k (names_in_range d.range ++ names_in_values d.values) ≡ true → (broken_parameters t d).bad_constant ≡ true
      found h = elim (in-either (names_in_range d.range) (names_in_values d.values) h) as (λ _. (broken_parameters t d).bad_constant ≡ true) [
        | inl a ↦ or-left (broken_range t d.range).bad_constant ((broken_width t d.range).bad_constant || (broken_values t d.range d.values).bad_constant) (net-in-range d.range a)
        | inr a ↦ or-right (broken_range t d.range).bad_constant ((broken_width t d.range).bad_constant || (broken_values t d.range d.values).bad_constant)
            (or-right (broken_width t d.range).bad_constant (broken_values t d.range d.values).bad_constant (net-in-values d.range d.values a))
      ]

      not-found : list_any k (names_in_range d.range ++ names_in_values d.values) ≡ false → (broken_parameters t d).bad_constant ≡ (broken_parameters s d).bad_constant
      not-found h =
          let p = in-neither (names_in_range d.range) (names_in_values d.values) h in
          let w = width-bad s d.range ∙ sym (width-bad t d.range) in
          sym (λ i. same-range d.range p.0 i || (w i || same-values d.range d.values p.0 p.1 i))

  pub told-header : (ds : List ParameterDeclaration) → IsTold (broken_header s ds).bad_constant (broken_header t ds).bad_constant (list_any k (names_in_parameters ds))
  told-header [] = told-same false
  told-header (d ∷ ds) = told-append (names_in_range d.range ++ names_in_values d.values) (names_in_parameters ds) (told-parameters d) (told-header ds)

  -- ---- instances

  told-named : (cs : List (Name × Option Expression)) → IsTold (broken_named_values s cs).bad_constant (broken_named_values t cs).bad_constant (list_any k (names_in_named cs))
  told-named [] = told-same false
  told-named ((n, None) ∷ cs) = told-named cs
  told-named ((n, Some e) ∷ cs) = told-append (names_in e) (names_in_named cs) (told-constant e) (told-named cs)

  told-ordered : (es : List (Option Expression)) → IsTold (broken_ordered_values s es).bad_constant (broken_ordered_values t es).bad_constant (list_any k (names_in_ordered es))
  told-ordered [] = told-same false
  told-ordered (None ∷ es) = told-ordered es
  told-ordered (Some e ∷ es) = told-append (names_in e) (names_in_ordered es) (told-constant e) (told-ordered es)

  told-overrides : (given : Connections) → IsTold (broken_overrides s given).bad_constant (broken_overrides t given).bad_constant (list_any k (names_in_connections given))
  told-overrides (by_names cs) = told-named cs
  told-overrides (by_order es) = told-ordered es

  -- an expression that is connected to an output, where b holds
  told-connected : (b : Bool) (e : Expression) (x : Option Target)
      → IsTold (cond b (broken_output s e x) (broken s anywhere e)).bad_constant (cond b (broken_output t e x) (broken t anywhere e)).bad_constant (list_any k (cond b (constant_names_in_output e x) (constant_names e)))
  told-connected true e None = told-expression e
  told-connected true e (Some x) = told-net x
  told-connected false e x = told-expression e

  told-connection : (below : Option Module) (c : Connection) → IsTold (broken_connection s below c).bad_constant (broken_connection t below c).bad_constant (list_any k (constant_names_in_connection below c))
  told-connection None c = told-expression c.expression
  told-connection (Some below) c = told-connected (is_output (port_direction below (port_meant below c.to_port))) c.expression (as_target c.expression)

  told-connections : (below : Option Module) (cs : List Connection) → IsTold (broken_connections s below cs).bad_constant (broken_connections t below cs).bad_constant (list_any k (constant_names_in_connections below cs))
  told-connections below [] = told-same false
  told-connections below (c ∷ cs) = told-append (constant_names_in_connection below c) (constant_names_in_connections below cs) (told-connection below c) (told-connections below cs)

  told-instances : (below : Option Module) (is : List (Name × Connections)) → IsTold (broken_instances s below is).bad_constant (broken_instances t below is).bad_constant (list_any k (constant_names_in_instances below is))
  told-instances below [] = told-same false
  told-instances below (i ∷ is) =
      told-append (constant_names_in_connections below (instance_connections i.0 i.1)) (constant_names_in_instances below is) (told-connections below (instance_connections i.0 i.1)) (told-instances below is)

  -- ---- all items

  module _ (source : Source) where
    told-item : (i : Item) → IsTold (broken_module_item source s i).bad_constant (broken_module_item source t i).bad_constant (list_any k (constant_names_in_item source i))
    told-item (port d) = told-range d.range
    told-item (parameter d) = told-parameters d
    told-item (wires signed r ws) = told-append (names_in_range r) (constant_names_in_initial ws) (told-range r) (told-initial ws)
    told-item (variables signed r vs) = told-append (names_in_range r) (names_in_addresses vs) (told-range r) (told-addresses vs)
    told-item (assign xs) = told-assignments xs
    told-item (always es x) = told-or (told-none (events-bad s es) (events-bad t es)) (told-statement (is_clocked es) x)
    told-item (instances m given is) =
        told-append (names_in_connections given) (constant_names_in_instances (module_named source m) is) (told-overrides given) (told-instances (module_named source m) is)

    pub told-items : (items : List Item) → IsTold (broken_module_items source s items).bad_constant (broken_module_items source t items).bad_constant (list_any k (constant_names_in_module_items source items))
    told-items [] = told-same false
    told-items (i ∷ items) = told-append (constant_names_in_item source i) (constant_names_in_module_items source items) (told-item i) (told-items items)
