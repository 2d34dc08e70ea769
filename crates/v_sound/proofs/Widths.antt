-- What is broken in two scopes whose nets differ in width alone: the same rules, but for those on widths.
use Rattle.std.proofs.Common.{◌≡◌, ℕ, ◌+◌, ◌∙◌, option_map, refl, sym, ap, Bool, true, false, cond, not, ◌&&◌, ◌||◌, List, [], ◌∷◌, Option, Some, None, is_some, ℤ, pos, int_lt}
use Rattle.std.specs.List.{list_any}
use Rattle.wb_values.specs.Value.{Name}
use Rattle.wb_values.specs.Choice.{some_if}
use Rattle.verilog_trees.specs.Syntax.{Connections, by_name as by_names, by_order, ParameterDeclaration, Module, Expression, number, name, concatenation, replication, as_signed, as_unsigned, unary, reduction, binary, shift, power, comparison, logical, conditional, Expressions, no_expressions, expression, Select, index, part, part_up, part_down, Selects, whole, one, two, Target, place, joined, Targets, no_targets, target, CaseKind, Statement, empty, blocking, nonblocking, if_then, if_else, case, block, Statements, no_statements, statement, CaseItems, no_items, arm, default_arm, Event, Events, any_change, on_events, Range, PortDeclaration, Item, port, parameter, wires, variables, assign, always, instances, Source}
use Rattle.verilog_meaning.specs.Expression.{Object, Scope, is_memory, distance, width_of, widths_of, sign_of}
use Rattle.verilog_meaning.specs.Hierarchy.{module_named}
use Rattle.verilog_meaning.specs.Settled.{as_target, Connection, instance_connections, port_meant}
use Rattle.verilog_meaning.specs.Statement.{targets_width}
use Rattle.verilog_meaning.specs.Register.{is_clocked}
use Rattle.verilog_rules.specs.Expression.{Broken, nothing, also, constant_if, Position, anywhere, constant, in_context, wider, has_bad_select, lacks_index, has_many_words, by_name, is_below, by_total, copies, runs_against, is_unsized, divides, by_itself, as_constant, broken, broken_parts, broken_selects, broken_select, broken_bits, has_width, have_widths, broken_constant, constant_number}
use Rattle.verilog_designs.specs.Names.{names_in}
use Rattle.verilog_designs.specs.Expressions.{memory_if, is_outside, broken_bound, broken_range, broken_ports, targets_have_width, broken_target, broken_targets, by_constants, writes_memory, one_writes_memory, broken_net_target, judged_item, broken_items, broken_block_target, broken_statement, broken_statements, broken_arms, broken_event_list, broken_events, broken_assignments, broken_initial_values, broken_addresses, broken_values, broken_width, broken_parameters, broken_header, broken_output, broken_connection, broken_connections, broken_instances, broken_named_values, broken_ordered_values, broken_overrides, broken_module_item, broken_module_items}
use Rattle.verilog_designs.specs.Known.{as_bound, both_bounds, known_range_width, value_position}
use Rattle.verilog_designs.specs.Ports.{is_output, port_direction}
use Rattle.verilog_exists.proofs.Scopes.{SameIn}
use Rattle.v_sound.specs.Alike.{IsNet, AreAlike, five}
use Rattle.v_sound.proofs.Constants.{net-within, net-in-constant, no-number, same-constant, same-rules, same-number}

ap2 : {A B C : Type 0} (f : A → B → C) {a b : A} {c d : B} → a ≡ b → c ≡ d → f a c ≡ f b d
ap2 f {a} {b} {c} {d} e g = ap (λ x. f x c) e ∙ ap (f b) g

-- all but the rules on widths and on constants
abbrev four : Broken → Broken
four b = record b { bad_constant = false; width_over_128 = false; misshapen = false }

select-alike : (o q : Object) → AreAlike o q → (x : Selects) → has_bad_select o x ≡ has_bad_select q x
select-alike o q a whole = refl
select-alike o q a (one x) = ap2 (λ m r. not (is_some m) && not r) a.memory a.range
select-alike o q a (two x y) = ap2 (λ m r. not (is_some m) || not r) a.memory a.range

name-alike : (p r : Position) (o q : Object) → AreAlike o q → (x : Selects) → four (by_name p o x) ≡ four (by_name r q x)
name-alike p r o q a x = λ i. record {
  undeclared = not (a.declared i);
  has_xz = false;
  bad_constant = false;
  width_over_128 = false;
  bad_select = a.declared i && select-alike o q a x i;
  memory_use = a.declared i && (is_some (a.memory i) && (lacks_index x || has_many_words (a.memory i)));
  misshapen = false;
}

runs-alike : (o q : Object) → AreAlike o q → (h l : Option ℤ) → runs_against o h l ≡ runs_against q h l
runs-alike o q a (Some h) (Some l) = ap (λ d. cond d (int_lt h l) (int_lt l h)) a.direction
runs-alike o q a (Some h) None = refl
runs-alike o q a None l = refl

total-four : (a : Option ℕ) → four (by_total a) ≡ nothing
total-four None = refl
total-four (Some w) = refl

total-five : (a : Option ℕ) → five (by_total a) ≡ nothing
total-five None = refl
total-five (Some w) = refl

pub total-bad : (a : Option ℕ) → (by_total a).bad_constant ≡ false
total-bad None = refl
total-bad (Some w) = refl

pub bits-bad : (s : Scope) (o : Object) (x : Select) → (broken_bits s o x).bad_constant ≡ false
bits-bad s o (index i) = refl
bits-bad s o (part h l) = refl
bits-bad s o (part_up b n) = refl
bits-bad s o (part_down b n) = refl

or-nothing : (m : Bool) (b c : Broken) → four b ≡ four c → four (cond m nothing b) ≡ four (cond m nothing c)
or-nothing true b c h = refl
or-nothing false b c h = h

pub or-nothing-bad : (m : Bool) (b : Broken) → b.bad_constant ≡ false → (cond m nothing b).bad_constant ≡ false
or-nothing-bad true b h = refl
or-nothing-bad false b h = h

-- w says which nets may differ
module _ (s t : Scope) (w : Name → Bool) (same : (n : Name) → w n ≡ false → s n ≡ t n)
    (nets-left : (n : Name) → w n ≡ true → IsNet (s n)) (nets-right : (n : Name) → w n ≡ true → IsNet (t n)) (alike : (n : Name) → AreAlike (s n) (t n)) where
  number-alike : (e : Expression) → constant_number s e ≡ constant_number t e
  number-alike e = (elim (list_any w (names_in e)) as (λ b. list_any w (names_in e) ≡ b → constant_number s e ≡ constant_number t e) [
    | true ↦ λ h. no-number s e (net-in-constant s w nets-left e h) ∙ sym (no-number t e (net-in-constant t w nets-right e h))
    | false ↦ λ h. same-number s t w same e h
  ]) refl

  bad-alike : (e : Expression) → (broken_constant s e).bad_constant ≡ (broken_constant t e).bad_constant
  bad-alike e = (elim (list_any w (names_in e)) as (λ b. list_any w (names_in e) ≡ b → (broken_constant s e).bad_constant ≡ (broken_constant t e).bad_constant) [
    | true ↦ λ h. net-in-constant s w nets-left e h ∙ sym (net-in-constant t w nets-right e h)
    | false ↦ λ h. ap (λ (b : Broken). b.bad_constant) (same-rules s t w same e h)
  ]) refl

  totals-four : (a b : Option ℕ) → four (by_total a) ≡ four (by_total b)
  totals-four a b = total-four a ∙ sym (total-four b)

  totals-bad : (a b : Option ℕ) → (by_total a).bad_constant ≡ (by_total b).bad_constant
  totals-bad a b = total-bad a ∙ sym (total-bad b)

  bits-four : (o q : Object) → AreAlike o q → (x : Select) → four (broken_bits s o x) ≡ four (broken_bits t q x)
  bits-four o q a (index i) = refl
  bits-four o q a (part h l) =
      ap (λ z. record nothing { bad_select = z || false })
      (ap2 (λ d r. d && r) a.declared
      (ap2 (runs_against o) (number-alike h) (number-alike l) ∙ runs-alike o q a (constant_number t h) (constant_number t l)))
  bits-four o q a (part_up b n) = refl
  bits-four o q a (part_down b n) = refl

  bits-or-none : (o q : Object) → AreAlike o q → (x : Select) → four (cond (is_memory o) nothing (broken_bits s o x)) ≡ four (cond (is_memory q) nothing (broken_bits t q x))
  bits-or-none o q a x = or-nothing (is_memory o) (broken_bits s o x) (broken_bits t q x) (bits-four o q a x) ∙ ap (λ m. four (cond (is_some m) nothing (broken_bits t q x))) a.memory

  bits-or-none-bad : (o q : Object) (x : Select) → (cond (is_memory o) nothing (broken_bits s o x)).bad_constant ≡ (cond (is_memory q) nothing (broken_bits t q x)).bad_constant
  bits-or-none-bad o q x = or-nothing-bad (is_memory o) (broken_bits s o x) (bits-bad s o x) ∙ sym (or-nothing-bad (is_memory q) (broken_bits t q x) (bits-bad t q x))

  mutual
    expression-four : (e : Expression) (p q : Position) → four (broken s p e) ≡ four (broken t q e)
    expression-four (number k) p q = refl
    expression-four (name n x) p q = ap2 also (name-alike p q (s n) (t n) (alike n) x) (selects-four x p q (s n) (t n) (alike n))
    expression-four (concatenation es) p q = ap2 also (totals-four (some_if (have_widths s es) (widths_of s es)) (some_if (have_widths t es) (widths_of t es))) (parts-four es p q)
    expression-four (replication k es) p q =
        ap2 also (expression-four k (as_constant s (has_width s k) k) (as_constant t (has_width t k) k))
        (ap2 also (totals-four (copies (constant_number s k) (some_if (have_widths s es) (widths_of s es))) (copies (constant_number t k) (some_if (have_widths t es) (widths_of t es))))
        (parts-four es p q))
    expression-four (as_signed x) p q = expression-four x (by_itself s p (has_width s x) x) (by_itself t q (has_width t x) x)
    expression-four (as_unsigned x) p q = expression-four x (by_itself s p (has_width s x) x) (by_itself t q (has_width t x) x)
    expression-four (unary op x) p q = expression-four x p q
    expression-four (reduction op x) p q = expression-four x (by_itself s p (has_width s x) x) (by_itself t q (has_width t x) x)
    expression-four (binary op x y) p q = ap2 also (expression-four x p q) (expression-four y p q)
    expression-four (shift op x n) p q = ap2 also (expression-four x p q) (expression-four n (by_itself s p (has_width s n) n) (by_itself t q (has_width t n) n))
    expression-four (power x n) p q = ap2 also (expression-four x p q) (expression-four n (by_itself s p (has_width s n) n) (by_itself t q (has_width t n) n))
    expression-four (comparison op x y) p q =
        let c : Position = in_context p (wider (some_if (has_width s x) (width_of s x)) (some_if (has_width s y) (width_of s y))) (sign_of s x && sign_of s y) in
        let d : Position = in_context q (wider (some_if (has_width t x) (width_of t x)) (some_if (has_width t y) (width_of t y))) (sign_of t x && sign_of t y) in
        ap2 also (expression-four x c d) (expression-four y c d)
    expression-four (logical op x y) p q =
        ap2 also (expression-four x (by_itself s p (has_width s x) x) (by_itself t q (has_width t x) x)) (expression-four y (by_itself s p (has_width s y) y) (by_itself t q (has_width t y) y))
    expression-four (conditional c x y) p q =
        ap2 also (ap2 also (expression-four c (by_itself s p (has_width s c) c) (by_itself t q (has_width t c) c)) (expression-four x p q)) (expression-four y p q)

    parts-four : (es : Expressions) (p q : Position) → four (broken_parts s p es) ≡ four (broken_parts t q es)
    parts-four no_expressions p q = refl
    parts-four (expression e es) p q = ap2 also (expression-four e (by_itself s p (has_width s e) e) (by_itself t q (has_width t e) e)) (parts-four es p q)

    selects-four : (x : Selects) (p q : Position) (o r : Object) → AreAlike o r → four (broken_selects s p o x) ≡ four (broken_selects t q r x)
    selects-four whole p q o r a = refl
    selects-four (one x) p q o r a = ap2 also (select-four x p q) (bits-or-none o r a x)
    selects-four (two x y) p q o r a = ap2 also (select-four x p q) (ap2 also (select-four y p q) (bits-four o r a y))

    select-four : (x : Select) (p q : Position) → four (broken_select s p x) ≡ four (broken_select t q x)
    select-four (index i) p q = expression-four i (by_itself s p (has_width s i) i) (by_itself t q (has_width t i) i)
    select-four (part h l) p q =
        ap2 also (expression-four h (as_constant s (has_width s h) h) (as_constant t (has_width t h) h)) (expression-four l (as_constant s (has_width s l) l) (as_constant t (has_width t l) l))
    select-four (part_up b n) p q =
        ap2 also (expression-four b (by_itself s p (has_width s b) b) (by_itself t q (has_width t b) b)) (expression-four n (as_constant s (has_width s n) n) (as_constant t (has_width t n) n))
    select-four (part_down b n) p q =
        ap2 also (expression-four b (by_itself s p (has_width s b) b) (by_itself t q (has_width t b) b)) (expression-four n (as_constant s (has_width s n) n) (as_constant t (has_width t n) n))

  counted-bad : (n : Expression) → (is_below (pos 1) (constant_number s n) || (broken_constant s n).bad_constant) ≡ (is_below (pos 1) (constant_number t n) || (broken_constant t n).bad_constant)
  counted-bad n = ap2 (λ a b. a || b) (ap (is_below (pos 1)) (number-alike n)) (bad-alike n)

  mutual
    expression-bad : (e : Expression) → (broken s anywhere e).bad_constant ≡ (broken t anywhere e).bad_constant
    expression-bad (number k) = refl
    expression-bad (name n x) = ap2 (λ a b. a || b) (ap (λ d. d && false) (alike n).declared) (selects-bad x (s n) (t n))
    expression-bad (concatenation es) = ap2 (λ a b. a || b) (totals-bad (some_if (have_widths s es) (widths_of s es)) (some_if (have_widths t es) (widths_of t es))) (parts-bad es)
    expression-bad (replication k es) =
        ap2 (λ a b. a || b) (counted-bad k)
        (ap2 (λ a b. a || b) (totals-bad (copies (constant_number s k) (some_if (have_widths s es) (widths_of s es))) (copies (constant_number t k) (some_if (have_widths t es) (widths_of t es)))) (parts-bad es))
    expression-bad (as_signed x) = expression-bad x
    expression-bad (as_unsigned x) = expression-bad x
    expression-bad (unary op x) = expression-bad x
    expression-bad (reduction op x) = expression-bad x
    expression-bad (binary op x y) = ap2 (λ a b. a || ((divides op && true) || b)) (expression-bad x) (expression-bad y)
    expression-bad (shift op x n) = ap2 (λ a b. a || b) (expression-bad x) (expression-bad n)
    expression-bad (power x n) = ap (λ a. a || true) (expression-bad x)
    expression-bad (comparison op x y) = ap2 (λ a b. a || b) (expression-bad x) (expression-bad y)
    expression-bad (logical op x y) = ap2 (λ a b. a || b) (expression-bad x) (expression-bad y)
    expression-bad (conditional c x y) = ap2 (λ a b. a || b) (ap2 (λ a b. a || b) (expression-bad c) (expression-bad x)) (expression-bad y)

    parts-bad : (es : Expressions) → (broken_parts s anywhere es).bad_constant ≡ (broken_parts t anywhere es).bad_constant
    parts-bad no_expressions = refl
    parts-bad (expression e es) = ap2 (λ a b. (is_unsized e || a) || b) (expression-bad e) (parts-bad es)

    selects-bad : (x : Selects) (o q : Object) → (broken_selects s anywhere o x).bad_constant ≡ (broken_selects t anywhere q x).bad_constant
    selects-bad whole o q = refl
    selects-bad (one x) o q = ap2 (λ a b. a || b) (select-bad x) (bits-or-none-bad o q x)
    selects-bad (two x y) o q = ap2 (λ a b. a || b) (select-bad x) (ap2 (λ a b. a || b) (select-bad y) (bits-bad s o y ∙ sym (bits-bad t q y)))

    select-bad : (x : Select) → (broken_select s anywhere x).bad_constant ≡ (broken_select t anywhere x).bad_constant
    select-bad (index i) = expression-bad i
    select-bad (part h l) = ap2 (λ a b. a || b) (bad-alike h) (bad-alike l)
    select-bad (part_up b n) = ap2 (λ a c. a || c) (expression-bad b) (counted-bad n)
    select-bad (part_down b n) = ap2 (λ a c. a || c) (expression-bad b) (counted-bad n)

  -- where indexes are constants
  select-constant : (x : Select) → (broken_select s by_constants x).bad_constant ≡ (broken_select t by_constants x).bad_constant
  select-constant (index i) = bad-alike i
  select-constant (part h l) = ap2 (λ a b. a || b) (bad-alike h) (bad-alike l)
  select-constant (part_up b n) = ap2 (λ a c. a || c) (bad-alike b) (counted-bad n)
  select-constant (part_down b n) = ap2 (λ a c. a || c) (bad-alike b) (counted-bad n)

  selects-constant : (x : Selects) (o q : Object) → (broken_selects s by_constants o x).bad_constant ≡ (broken_selects t by_constants q x).bad_constant
  selects-constant whole o q = refl
  selects-constant (one x) o q = ap2 (λ a b. a || b) (select-constant x) (bits-or-none-bad o q x)
  selects-constant (two x y) o q = ap2 (λ a b. a || b) (select-constant x) (ap2 (λ a b. a || b) (select-constant y) (bits-bad s o y ∙ sym (bits-bad t q y)))

  expression-five : (e : Expression) → five (broken s anywhere e) ≡ five (broken t anywhere e)
  expression-five e = λ i. record (expression-four e anywhere anywhere i) { bad_constant = expression-bad e i }

  constant-five : (e : Expression) → five (broken_constant s e) ≡ five (broken_constant t e)
  constant-five e = λ i. record (expression-four e (as_constant s (has_width s e) e) (as_constant t (has_width t e) e) i) { bad_constant = bad-alike e i }

  range-five : (r : Option Range) → five (broken_range s r) ≡ five (broken_range t r)
  range-five None = refl
  range-five (Some r) = ap2 also (bound-five r.left) (bound-five r.right)
    where
      bound-five : (e : Expression) → five (broken_bound s e) ≡ five (broken_bound t e)
      bound-five e = ap2 also (ap (λ n. five (constant_if (is_outside n))) (number-alike e)) (constant-five e)

  pub ports-five : (ds : List PortDeclaration) → five (broken_ports s ds) ≡ five (broken_ports t ds)
  ports-five [] = refl
  ports-five (d ∷ ds) = ap2 also (range-five d.range) (ports-five ds)

  -- ---- targets

  mutual
    writes-same : (x : Target) → writes_memory s x ≡ writes_memory t x
    writes-same (place n x) = ap is_some (alike n).memory
    writes-same (joined xs) = one-writes-same xs

    one-writes-same : (xs : Targets) → one_writes_memory s xs ≡ one_writes_memory t xs
    one-writes-same no_targets = refl
    one-writes-same (target x xs) = ap2 (λ a b. a || b) (writes-same x) (one-writes-same xs)

  place-five : (n : Name) (x : Selects) (p : Position) → (broken_selects s p (s n) x).bad_constant ≡ (broken_selects t p (t n) x).bad_constant
      → five (also (by_name anywhere (s n) x) (broken_selects s p (s n) x)) ≡ five (also (by_name anywhere (t n) x) (broken_selects t p (t n) x))
  place-five n x p h = λ i.
      record (ap2 also (name-alike anywhere anywhere (s n) (t n) (alike n) x) (selects-four x p p (s n) (t n) (alike n)) i) {
        bad_constant = ap2 (λ a b. a || b) (ap (λ d. d && false) (alike n).declared) h i;
      }

  totals-five : (a b : Option ℕ) → five (by_total a) ≡ five (by_total b)
  totals-five a b = total-five a ∙ sym (total-five b)

  module _ (p : Position) (of_selects : (x : Selects) (o q : Object) → (broken_selects s p o x).bad_constant ≡ (broken_selects t p q x).bad_constant) where
    mutual
      target-five : (x : Target) → five (broken_target s p x) ≡ five (broken_target t p x)
      target-five (place n x) = place-five n x p (of_selects x (s n) (t n))
      target-five (joined xs) = ap2 also (totals-five (some_if (targets_have_width s xs) (targets_width s xs)) (some_if (targets_have_width t xs) (targets_width t xs))) (targets-five xs)

      targets-five : (xs : Targets) → five (broken_targets s p xs) ≡ five (broken_targets t p xs)
      targets-five no_targets = refl
      targets-five (target x xs) = ap2 also (target-five x) (targets-five xs)

    net-five : (x : Target) → five (broken_net_target s p x) ≡ five (broken_net_target t p x)
    net-five x = ap2 also (ap (λ b. five (memory_if b)) (writes-same x)) (target-five x)

  block-target-five : (c : Bool) (x : Target) → five (broken_block_target s c x) ≡ five (broken_block_target t c x)
  block-target-five true x = target-five anywhere selects-bad x
  block-target-five false x = net-five anywhere selects-bad x

  -- ---- statements

  values-five : (kind : CaseKind) (es : Expressions) → five (broken_items s kind es) ≡ five (broken_items t kind es)
  values-five kind no_expressions = refl
  values-five kind (expression e es) = ap2 also (expression-five (judged_item kind e)) (values-five kind es)

  mutual
    statement-five : (c : Bool) (x : Statement) → five (broken_statement s c x) ≡ five (broken_statement t c x)
    statement-five c empty = refl
    statement-five c (blocking x e) = ap2 also (block-target-five c x) (expression-five e)
    statement-five c (nonblocking x e) = ap2 also (block-target-five c x) (expression-five e)
    statement-five c (if_then e x) = ap2 also (expression-five e) (statement-five c x)
    statement-five c (if_else e x y) = ap2 also (expression-five e) (ap2 also (statement-five c x) (statement-five c y))
    statement-five c (case kind e items) = ap2 also (expression-five e) (arms-five c kind items)
    statement-five c (block n xs) = statements-five c xs

    statements-five : (c : Bool) (xs : Statements) → five (broken_statements s c xs) ≡ five (broken_statements t c xs)
    statements-five c no_statements = refl
    statements-five c (statement x xs) = ap2 also (statement-five c x) (statements-five c xs)

    arms-five : (c : Bool) (kind : CaseKind) (items : CaseItems) → five (broken_arms s c kind items) ≡ five (broken_arms t c kind items)
    arms-five c kind no_items = refl
    arms-five c kind (arm es x items) = ap2 also (values-five kind es) (ap2 also (statement-five c x) (arms-five c kind items))
    arms-five c kind (default_arm x items) = ap2 also (statement-five c x) (arms-five c kind items)

  -- ---- items

  event_list-five : (es : List Event) → five (broken_event_list s es) ≡ five (broken_event_list t es)
  event_list-five [] = refl
  event_list-five (e ∷ es) = ap2 also (ap (λ m. five (memory_if (is_some m))) (alike e.signal).memory) (event_list-five es)

  events-five : (es : Events) → five (broken_events s es) ≡ five (broken_events t es)
  events-five any_change = refl
  events-five (on_events es) = event_list-five es

  assignments-five : (xs : List (Target × Expression)) → five (broken_assignments s xs) ≡ five (broken_assignments t xs)
  assignments-five [] = refl
  assignments-five (x ∷ xs) = ap2 also (ap2 also (net-five by_constants selects-constant x.0) (expression-five x.1)) (assignments-five xs)

  initial-five : (ws : List (Name × Option Expression)) → five (broken_initial_values s ws) ≡ five (broken_initial_values t ws)
  initial-five [] = refl
  initial-five ((n, None) ∷ ws) = initial-five ws
  initial-five ((n, Some e) ∷ ws) = ap2 also (expression-five e) (initial-five ws)

  addresses-five : (vs : List (Name × Option Range)) → five (broken_addresses s vs) ≡ five (broken_addresses t vs)
  addresses-five [] = refl
  addresses-five (v ∷ vs) = ap2 also (range-five v.1) (addresses-five vs)

  -- ---- parameters

  range-width-alike : (r : Range) → known_range_width s r ≡ known_range_width t r
  range-width-alike r = λ i. option_map (λ b. distance b.0 b.1 + 1) (both_bounds (as_bound (number-alike r.left i)) (as_bound (number-alike r.right i)))

  net-in-value : (q : Scope) → ((n : Name) → w n ≡ true → IsNet (q n)) → (r : Option Range) (e : Expression) → list_any w (names_in e) ≡ true → (broken q (value_position q r e) e).bad_constant ≡ true
  net-in-value q nets None e h = net-in-constant q w nets e h
  net-in-value q nets (Some r) e h = net-within q w nets e h (wider (known_range_width q r) (some_if (has_width q e) (width_of q e))) (sign_of q e)

  same-value : (r : Option Range) (e : Expression) → list_any w (names_in e) ≡ false → broken s (value_position s r e) e ≡ broken t (value_position t r e) e
  same-value None e h = same-rules s t w same e h
  same-value (Some r) e h =
      let q : SameIn s t e = same-constant s t w same e h in
      q.rules (value_position s (Some r) e) ∙ (λ i. broken t (constant (wider (range-width-alike r i) (some_if (q.has i) (q.width i))) (q.sign i)) e)

  value-bad : (r : Option Range) (e : Expression) → (broken s (value_position s r e) e).bad_constant ≡ (broken t (value_position t r e) e).bad_constant
  value-bad r e = (elim (list_any w (names_in e)) as (λ b. list_any w (names_in e) ≡ b → (broken s (value_position s r e) e).bad_constant ≡ (broken t (value_position t r e) e).bad_constant) [
    | true ↦ λ h. net-in-value s nets-left r e h ∙ sym (net-in-value t nets-right r e h)
    | false ↦ λ h. ap (λ (b : Broken). b.bad_constant) (same-value r e h)
  ]) refl

  value-five : (r : Option Range) (e : Expression) → five (broken s (value_position s r e) e) ≡ five (broken t (value_position t r e) e)
  value-five r e = λ i. record (expression-four e (value_position s r e) (value_position t r e) i) { bad_constant = value-bad r e i }

  all-values-five : (r : Option Range) (vs : List (Name × Expression)) → five (broken_values s r vs) ≡ five (broken_values t r vs)
  all-values-five r [] = refl
  all-values-five r (v ∷ vs) = ap2 also (value-five r v.1) (all-values-five r vs)

  width-five : (r : Option Range) → five (broken_width s r) ≡ five (broken_width t r)
  width-five None = refl
  width-five (Some r) = refl

  parameters-five : (d : ParameterDeclaration) → five (broken_parameters s d) ≡ five (broken_parameters t d)
  parameters-five d = ap2 also (range-five d.range) (ap2 also (width-five d.range) (all-values-five d.range d.values))

  pub header-five : (ds : List ParameterDeclaration) → five (broken_header s ds) ≡ five (broken_header t ds)
  header-five [] = refl
  header-five (d ∷ ds) = ap2 also (parameters-five d) (header-five ds)

  -- ---- instances

  named-five : (cs : List (Name × Option Expression)) → five (broken_named_values s cs) ≡ five (broken_named_values t cs)
  named-five [] = refl
  named-five ((n, None) ∷ cs) = named-five cs
  named-five ((n, Some e) ∷ cs) = ap2 also (constant-five e) (named-five cs)

  ordered-five : (es : List (Option Expression)) → five (broken_ordered_values s es) ≡ five (broken_ordered_values t es)
  ordered-five [] = refl
  ordered-five (None ∷ es) = ordered-five es
  ordered-five (Some e ∷ es) = ap2 also (constant-five e) (ordered-five es)

  overrides-five : (given : Connections) → five (broken_overrides s given) ≡ five (broken_overrides t given)
  overrides-five (by_names cs) = named-five cs
  overrides-five (by_order es) = ordered-five es

  -- an expression that is connected to an output, where b holds
  connected-five : (b : Bool) (e : Expression) (x : Option Target) → five (cond b (broken_output s e x) (broken s anywhere e)) ≡ five (cond b (broken_output t e x) (broken t anywhere e))
  connected-five true e None = expression-five e
  connected-five true e (Some x) = net-five by_constants selects-constant x
  connected-five false e x = expression-five e

  connection-five : (below : Option Module) (c : Connection) → five (broken_connection s below c) ≡ five (broken_connection t below c)
  connection-five None c = expression-five c.expression
  connection-five (Some below) c = connected-five (is_output (port_direction below (port_meant below c.to_port))) c.expression (as_target c.expression)

  connections-five : (below : Option Module) (cs : List Connection) → five (broken_connections s below cs) ≡ five (broken_connections t below cs)
  connections-five below [] = refl
  connections-five below (c ∷ cs) = ap2 also (connection-five below c) (connections-five below cs)

  instances-five : (below : Option Module) (is : List (Name × Connections)) → five (broken_instances s below is) ≡ five (broken_instances t below is)
  instances-five below [] = refl
  instances-five below (i ∷ is) = ap2 also (connections-five below (instance_connections i.0 i.1)) (instances-five below is)

  -- ---- all items

  module _ (source : Source) where
    item-five : (i : Item) → five (broken_module_item source s i) ≡ five (broken_module_item source t i)
    item-five (port d) = range-five d.range
    item-five (parameter d) = parameters-five d
    item-five (wires signed r ws) = ap2 also (range-five r) (initial-five ws)
    item-five (variables signed r vs) = ap2 also (range-five r) (addresses-five vs)
    item-five (assign xs) = assignments-five xs
    item-five (always es x) = ap2 also (events-five es) (statement-five (is_clocked es) x)
    item-five (instances m given is) = ap2 also (overrides-five given) (instances-five (module_named source m) is)

    pub items-five : (items : List Item) → five (broken_module_items source s items) ≡ five (broken_module_items source t items)
    items-five [] = refl
    items-five (i ∷ items) = ap2 also (item-five i) (items-five items)
