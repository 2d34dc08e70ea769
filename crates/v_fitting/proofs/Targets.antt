-- Targets and statements that break no rule: constants where constants are wanted, and targets of at most 128 bits.
use Rattle.std.proofs.Common.{◌≡◌, ℕ, Bool, true, false, not, cond, ◌&&◌, refl, sym, Option, Some, None, is_some, is_none, pos}
use Rattle.std.proofs.lemmas.Bool.{false≢true, and_parts, and_from}
use Rattle.wb_values.specs.Choice.{some_if}
use Rattle.verilog_trees.specs.Syntax.{Expression, number, name, concatenation, replication, as_signed, as_unsigned, unary, reduction, binary, shift, power, comparison, logical, conditional, Expressions, no_expressions, expression, Select, index, part, part_up, part_down, Selects, whole, one, two, Target, place, joined, Targets, no_targets, target, CaseKind, Statement, empty, blocking, nonblocking, if_then, if_else, case, block, Statements, no_statements, statement, CaseItems, no_items, arm, default_arm}
use Rattle.verilog_meaning.specs.Expression.{Object, Scope, is_memory, width_of, widths_of, sign_of}
use Rattle.verilog_meaning.specs.Statement.{targets_width}
use Rattle.verilog_meaning.specs.Register.{is_constant, are_constant, select_is_constant, selects_are_constant}
use Rattle.verilog_settled.specs.Locality.{has_constant_selects, all_have_constant_selects}
use Rattle.verilog_rules.specs.Expression.{Broken, nothing, also, is_unbroken, constant_if, anywhere, constant, wider, by_name, by_total, copies, is_below, number_if, is_unsized, divides, is_bad_divisor, is_bad_exponent, as_constant, broken, broken_parts, broken_selects, broken_select, broken_bits, has_width, have_widths}
use Rattle.verilog_designs.specs.Expressions.{by_constants, targets_have_width, broken_target, broken_targets, broken_block_target, broken_items, broken_statement, broken_statements, broken_arms}
use Rattle.v_value.specs.Narrow.{HasNarrowObjects}
use Rattle.v_size.proofs.Unbroken.{unbroken-also}
use Rattle.v_sound.proofs.Fitting.{target-fits, block-target}
use Rattle.v_depend.specs.Running.{HasNarrowTargets, HaveNarrowTargets, HaveNarrowTargetsInArms}

-- ---- where a constant is wanted

not-so : (a : Bool) → not a ≡ true → a ≡ false
not-so false e = refl
not-so true e = absurd (false≢true e)

not-not-so : (a : Bool) → not (not a) ≡ true → a ≡ true
not-not-so true e = refl
not-not-so false e = absurd (false≢true e)

some-number : (d : Bool) (c : Option ℕ) → d ≡ true → (d && (true && is_none c)) ≡ false → is_some c ≡ true
some-number true None e f = absurd (false≢true (sym f))
some-number true (Some k) e f = refl
some-number false c e f = absurd (false≢true e)

name-constant : (o : Object) (v : Option ℕ) (u : Bool) (x : Selects) → is_unbroken (by_name (constant v u) o x) ≡ true → is_some o.constant ≡ true
name-constant o v u x h =
    let a = and_parts (not (not o.is_declared)) _ h in
    let b = and_parts (not (o.is_declared && (true && is_none o.constant))) _ a.1 in
    some-number o.is_declared o.constant (not-not-so o.is_declared a.0) (not-so (o.is_declared && (true && is_none o.constant)) b.0)

mutual
  constant-so : (s : Scope) (v : Option ℕ) (u : Bool) (e : Expression) → is_unbroken (broken s (constant v u) e) ≡ true → is_constant s e ≡ true
  constant-so s v u (number k) h = refl
  constant-so s v u (name n x) h =
      let q = unbroken-also (by_name (constant v u) (s n) x) (broken_selects s (constant v u) (s n) x) h in
      and_from (is_some (s n).constant) (selects_are_constant s x) (name-constant (s n) v u x q.0) (selects-so s v u (s n) x q.1)
  constant-so s v u (concatenation es) h =
      parts-so s v u es (unbroken-also (by_total (some_if (have_widths s es) (widths_of s es))) (broken_parts s (constant v u) es) h).1
  constant-so s v u (replication k es) h =
      let b : Broken = broken s (as_constant s (has_width s k) k) k in
      let c : Broken = also (constant_if (is_below (pos 1) (number_if b s k))) b in
      let d : Broken = by_total (copies (number_if b s k) (some_if (have_widths s es) (widths_of s es))) in
      let q = unbroken-also c (also d (broken_parts s (constant v u) es)) h in
      parts-so s v u es (unbroken-also d (broken_parts s (constant v u) es) q.1).1
  constant-so s v u (as_signed x) h = constant-so s (some_if (has_width s x) (width_of s x)) (sign_of s x) x h
  constant-so s v u (as_unsigned x) h = constant-so s (some_if (has_width s x) (width_of s x)) (sign_of s x) x h
  constant-so s v u (unary op x) h = constant-so s v u x h
  constant-so s v u (reduction op x) h = constant-so s (some_if (has_width s x) (width_of s x)) (sign_of s x) x h
  constant-so s v u (binary op x y) h =
      let b : Broken = broken s (constant v u) y in
      let c : Broken = constant_if (divides op && is_bad_divisor s (constant v u) y (is_unbroken b)) in
      let q = unbroken-also (broken s (constant v u) x) (also c b) h in
      let r = unbroken-also c b q.1 in
      and_from (is_constant s x) (is_constant s y) (constant-so s v u x q.0) (constant-so s v u y r.1)
  constant-so s v u (shift op x n) h =
      let q = unbroken-also (broken s (constant v u) x) (broken s (constant (some_if (has_width s n) (width_of s n)) (sign_of s n)) n) h in
      and_from (is_constant s x) (is_constant s n) (constant-so s v u x q.0) (constant-so s (some_if (has_width s n) (width_of s n)) (sign_of s n) n q.1)
  constant-so s v u (power x n) h =
      let b : Broken = broken s (constant (some_if (has_width s n) (width_of s n)) (sign_of s n)) n in
      let c : Broken = constant_if (is_bad_exponent (constant v u) (number_if b s n)) in
      let q = unbroken-also (broken s (constant v u) x) (also c b) h in
      let r = unbroken-also c b q.1 in
      and_from (is_constant s x) (is_constant s n) (constant-so s v u x q.0) (constant-so s (some_if (has_width s n) (width_of s n)) (sign_of s n) n r.1)
  constant-so s v u (comparison op x y) h =
      let w : Option ℕ = wider (some_if (has_width s x) (width_of s x)) (some_if (has_width s y) (width_of s y)) in
      let t : Bool = sign_of s x && sign_of s y in
      let q = unbroken-also (broken s (constant w t) x) (broken s (constant w t) y) h in
      and_from (is_constant s x) (is_constant s y) (constant-so s w t x q.0) (constant-so s w t y q.1)
  constant-so s v u (logical op x y) h =
      let q = unbroken-also (broken s (constant (some_if (has_width s x) (width_of s x)) (sign_of s x)) x) (broken s (constant (some_if (has_width s y) (width_of s y)) (sign_of s y)) y) h in
      and_from (is_constant s x) (is_constant s y) (constant-so s (some_if (has_width s x) (width_of s x)) (sign_of s x) x q.0)
      (constant-so s (some_if (has_width s y) (width_of s y)) (sign_of s y) y q.1)
  constant-so s v u (conditional c x y) h =
      let b : Broken = broken s (constant (some_if (has_width s c) (width_of s c)) (sign_of s c)) c in
      let q = unbroken-also (also b (broken s (constant v u) x)) (broken s (constant v u) y) h in
      let r = unbroken-also b (broken s (constant v u) x) q.0 in
      and_from (is_constant s c) (is_constant s x && is_constant s y) (constant-so s (some_if (has_width s c) (width_of s c)) (sign_of s c) c r.0)
      (and_from (is_constant s x) (is_constant s y) (constant-so s v u x r.1) (constant-so s v u y q.1))

  parts-so : (s : Scope) (v : Option ℕ) (u : Bool) (es : Expressions) → is_unbroken (broken_parts s (constant v u) es) ≡ true → are_constant s es ≡ true
  parts-so s v u no_expressions h = refl
  parts-so s v u (expression e es) h =
      let b : Broken = broken s (constant (some_if (has_width s e) (width_of s e)) (sign_of s e)) e in
      let q = unbroken-also (also (constant_if (is_unsized e)) b) (broken_parts s (constant v u) es) h in
      let r = unbroken-also (constant_if (is_unsized e)) b q.0 in
      and_from (is_constant s e) (are_constant s es) (constant-so s (some_if (has_width s e) (width_of s e)) (sign_of s e) e r.1) (parts-so s v u es q.1)

  selects-so : (s : Scope) (v : Option ℕ) (u : Bool) (o : Object) (x : Selects) → is_unbroken (broken_selects s (constant v u) o x) ≡ true
      → selects_are_constant s x ≡ true
  selects-so s v u o whole h = refl
  selects-so s v u o (one x) h =
      select-so s v u x (unbroken-also (broken_select s (constant v u) x) (cond (is_memory o) nothing (broken_bits s o x)) h).0
  selects-so s v u o (two x y) h =
      let q = unbroken-also (broken_select s (constant v u) x) (also (broken_select s (constant v u) y) (broken_bits s o y)) h in
      let r = unbroken-also (broken_select s (constant v u) y) (broken_bits s o y) q.1 in
      and_from (select_is_constant s x) (select_is_constant s y) (select-so s v u x q.0) (select-so s v u y r.0)

  select-so : (s : Scope) (v : Option ℕ) (u : Bool) (x : Select) → is_unbroken (broken_select s (constant v u) x) ≡ true → select_is_constant s x ≡ true
  select-so s v u (index i) h = constant-so s (some_if (has_width s i) (width_of s i)) (sign_of s i) i h
  select-so s v u (part a b) h = refl
  select-so s v u (part_up b n) h =
      let c : Broken = broken s (as_constant s (has_width s n) n) n in
      let d : Broken = constant_if (is_below (pos 1) (number_if c s n)) in
      let f : Broken = broken s (constant (some_if (has_width s b) (width_of s b)) (sign_of s b)) b in
      constant-so s (some_if (has_width s b) (width_of s b)) (sign_of s b) b (unbroken-also f (also d c) h).0
  select-so s v u (part_down b n) h =
      let c : Broken = broken s (as_constant s (has_width s n) n) n in
      let d : Broken = constant_if (is_below (pos 1) (number_if c s n)) in
      let f : Broken = broken s (constant (some_if (has_width s b) (width_of s b)) (sign_of s b)) b in
      constant-so s (some_if (has_width s b) (width_of s b)) (sign_of s b) b (unbroken-also f (also d c) h).0

mutual
  -- the indexes of a target that must be constants are
  pub target-constant : (s : Scope) (t : Target) → is_unbroken (broken_target s by_constants t) ≡ true → has_constant_selects s t ≡ true
  target-constant s (place n x) h =
      selects-so s None false (s n) x (unbroken-also (by_name anywhere (s n) x) (broken_selects s by_constants (s n) x) h).1
  target-constant s (joined ts) h =
      targets-constant s ts (unbroken-also (by_total (some_if (targets_have_width s ts) (targets_width s ts))) (broken_targets s by_constants ts) h).1

  targets-constant : (s : Scope) (ts : Targets) → is_unbroken (broken_targets s by_constants ts) ≡ true → all_have_constant_selects s ts ≡ true
  targets-constant s no_targets h = refl
  targets-constant s (target t ts) h =
      let q = unbroken-also (broken_target s by_constants t) (broken_targets s by_constants ts) h in
      and_from (has_constant_selects s t) (all_have_constant_selects s ts) (target-constant s t q.0) (targets-constant s ts q.1)

-- ---- targets of at most 128 bits

module _ (s : Scope) (objects : HasNarrowObjects s) where
  mutual
    pub statement-targets : (c : Bool) (x : Statement) → is_unbroken (broken_statement s c x) ≡ true → HasNarrowTargets s x
    statement-targets c empty h = tt
    statement-targets c (blocking t e) h =
        let q = unbroken-also (broken_block_target s c t) (broken s anywhere e) h in
        (target-fits s objects anywhere t (block-target s objects c t q.0)).1.1
    statement-targets c (nonblocking t e) h = tt
    statement-targets c (if_then e x) h = statement-targets c x (unbroken-also (broken s anywhere e) (broken_statement s c x) h).1
    statement-targets c (if_else e x y) h =
        let q = unbroken-also (broken s anywhere e) (also (broken_statement s c x) (broken_statement s c y)) h in
        let r = unbroken-also (broken_statement s c x) (broken_statement s c y) q.1 in
        (statement-targets c x r.0, statement-targets c y r.1)
    statement-targets c (case kind e items) h = arms-targets c kind items (unbroken-also (broken s anywhere e) (broken_arms s c kind items) h).1
    statement-targets c (block n xs) h = statements-targets c xs h

    statements-targets : (c : Bool) (xs : Statements) → is_unbroken (broken_statements s c xs) ≡ true → HaveNarrowTargets s xs
    statements-targets c no_statements h = tt
    statements-targets c (statement x xs) h =
        let q = unbroken-also (broken_statement s c x) (broken_statements s c xs) h in
        (statement-targets c x q.0, statements-targets c xs q.1)

    arms-targets : (c : Bool) (kind : CaseKind) (items : CaseItems) → is_unbroken (broken_arms s c kind items) ≡ true → HaveNarrowTargetsInArms s items
    arms-targets c kind no_items h = tt
    arms-targets c kind (arm es x items) h =
        let q = unbroken-also (broken_items s kind es) (also (broken_statement s c x) (broken_arms s c kind items)) h in
        let r = unbroken-also (broken_statement s c x) (broken_arms s c kind items) q.1 in
        (statement-targets c x r.0, arms-targets c kind items r.1)
    arms-targets c kind (default_arm x items) h =
        let q = unbroken-also (broken_statement s c x) (broken_arms s c kind items) h in
        (statement-targets c x q.0, arms-targets c kind items q.1)
