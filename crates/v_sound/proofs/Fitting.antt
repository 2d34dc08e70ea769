-- Targets and statements that break no rule fit words of 128 bits.
use Rattle.std.proofs.Common.{◌≡◌, ◌≤◌, ℕ, Bool, true, false, not, cond, ◌&&◌, nat_le, nat_lt, refl, ap, ◌∙◌, arith}
use Rattle.std.proofs.lemmas.Bool.{false≢true}
use Rattle.std.proofs.lemmas.Bool.Decides.{nat_tests}
use Rattle.wb_values.specs.Choice.{some_if}
use Rattle.verilog_trees.specs.Syntax.{Number, Expression, number, name, concatenation, replication, as_signed, as_unsigned, unary, reduction, binary, shift, power, comparison, logical, conditional, Expressions, no_expressions, expression, Selects, Target, place, joined, Targets, no_targets, target, CaseKind, Statement, empty, blocking, nonblocking, if_then, if_else, case, block, Statements, no_statements, statement, CaseItems, no_items, arm, default_arm}
use Rattle.verilog_meaning.specs.Expression.{Object, Scope, object_width, selects_width}
use Rattle.verilog_meaning.specs.Statement.{target_width, targets_width}
use Rattle.verilog_rules.specs.Expression.{Position, anywhere, also, is_unbroken, broken, broken_selects, by_name, by_total, selects_have_width}
use Rattle.verilog_designs.specs.Expressions.{memory_if, target_has_width, targets_have_width, broken_target, broken_targets, writes_memory, broken_block_target, may_be_wild, judged_item, broken_item, broken_items, broken_statement, broken_statements, broken_arms}
use Rattle.v_value.specs.Narrow.{IsWidth, IsNarrow, AreNarrow, AreSelectsNarrow, HasNarrowObjects}
use Rattle.v_flow.specs.Narrow.{HasNarrowParts, HaveNarrowParts, IsNarrowFlow, AreNarrowFlows, AreNarrowArms}
use Rattle.v_size.proofs.Unbroken.{unbroken-also, unbroken-holds, selects-hold, total-fits}

and-both : (a b : Bool) → a ≡ true → b ≡ true → a && b ≡ true
and-both a b i j = ap (λ z. z && b) i ∙ j

pub within : (w : ℕ) → nat_lt 128 w ≡ false → w ≤ 128
within w h = grind (arith, nat_tests, h)

at-most : (w : ℕ) → w ≤ 128 → nat_le w 128 ≡ true
at-most w h = grind (arith, nat_tests, h)

not-true : (a : Bool) → not a ≡ true → a ≡ false
not-true false e = refl
not-true true e = absurd (false≢true e)

not-not : (d : Bool) → not (not d) ≡ true → d ≡ true
not-not true e = refl
not-not false e = absurd (false≢true e)

first : (a b : Bool) → a && b ≡ true → a ≡ true
first true b e = refl
first false b e = absurd (false≢true e)

named-declared : (o : Object) (x : Selects) → is_unbroken (by_name anywhere o x) ≡ true → o.is_declared ≡ true
named-declared o x h = not-not o.is_declared (first (not (not o.is_declared)) _ h)

module _ (s : Scope) (objects : HasNarrowObjects s) where
  -- a place, whose indexes stand in p
  place-fits : (p : Position) (o : Object) (x : Selects) → object_width o ≤ 128 → is_unbroken (also (by_name anywhere o x) (broken_selects s p o x)) ≡ true
      → ((o.is_declared && nat_le (object_width o) 128) && selects_have_width s o x ≡ true) × (IsWidth (selects_width s o x) × AreSelectsNarrow s x)
  place-fits p o x most h =
      let q = unbroken-also (by_name anywhere o x) (broken_selects s p o x) h in
      let r = selects-hold s objects p o x (omega arith, most) q.1 in (
        and-both (o.is_declared && nat_le (object_width o) 128) (selects_have_width s o x)
            (and-both o.is_declared (nat_le (object_width o) 128) (named-declared o x q.0) (at-most (object_width o) most)) r.0,
        r.1,
      )

  mutual
    pub target-fits : (p : Position) (t : Target) → is_unbroken (broken_target s p t) ≡ true → (target_has_width s t ≡ true) × IsWidth (target_width s t) × HasNarrowParts s t
    target-fits p (place n x) h =
        let r = place-fits p (s n) x (objects n).0 h in
        (r.0, r.1.0, r.1)
    target-fits p (joined ts) h =
        let q = unbroken-also (by_total (some_if (targets_have_width s ts) (targets_width s ts))) (broken_targets s p ts) h in
        let r = targets-fit p ts q.1 in
        let f = total-fits (targets_have_width s ts) (targets_width s ts) r.0 q.0 in
        (r.0, f.1, r.1)

    targets-fit : (p : Position) (ts : Targets) → is_unbroken (broken_targets s p ts) ≡ true → (targets_have_width s ts ≡ true) × HaveNarrowParts s ts
    targets-fit p no_targets h = (refl, tt)
    targets-fit p (target t ts) h =
        let q = unbroken-also (broken_target s p t) (broken_targets s p ts) h in
        let i = target-fits p t q.0 in
        let j = targets-fit p ts q.1 in
        (and-both (target_has_width s t) (targets_have_width s ts) i.0 j.0, (i.2, j.1))

  pub block-target : (c : Bool) (t : Target) → is_unbroken (broken_block_target s c t) ≡ true → is_unbroken (broken_target s anywhere t) ≡ true
  block-target true t h = h
  block-target false t h = (unbroken-also (memory_if (writes_memory s t)) (broken_target s anywhere t) h).1

  -- an item of a case, w saying whether wild digits may stand in it
  number-narrow : (k : Number) (w : Bool) → IsNarrow s (number (cond w (record k { has_wild = false }) k)) → IsNarrow s (number k)
  number-narrow k true h = h
  number-narrow k false h = h

  item-narrow : (kind : CaseKind) (e : Expression) → IsNarrow s (judged_item kind e) → IsNarrow s e
  item-narrow kind (number k) h = number-narrow k (may_be_wild kind k) h
  item-narrow kind (name n x) h = h
  item-narrow kind (concatenation es) h = h
  item-narrow kind (replication k es) h = h
  item-narrow kind (as_signed x) h = h
  item-narrow kind (as_unsigned x) h = h
  item-narrow kind (unary op x) h = h
  item-narrow kind (reduction op x) h = h
  item-narrow kind (binary op x y) h = h
  item-narrow kind (shift op x n) h = h
  item-narrow kind (power x n) h = h
  item-narrow kind (comparison op x y) h = h
  item-narrow kind (logical op x y) h = h
  item-narrow kind (conditional c x y) h = h

  values-narrow : (kind : CaseKind) (es : Expressions) → is_unbroken (broken_items s kind es) ≡ true → AreNarrow s es
  values-narrow kind no_expressions h = tt
  values-narrow kind (expression e es) h =
      let q = unbroken-also (broken_item s kind e) (broken_items s kind es) h in
      (item-narrow kind e (unbroken-holds s objects anywhere (judged_item kind e) q.0).1, values-narrow kind es q.1)

  assignment-narrow : (c : Bool) (t : Target) (e : Expression) → is_unbroken (also (broken_block_target s c t) (broken s anywhere e)) ≡ true → HasNarrowParts s t × IsNarrow s e
  assignment-narrow c t e h =
      let q = unbroken-also (broken_block_target s c t) (broken s anywhere e) h in
      ((target-fits anywhere t (block-target c t q.0)).2, (unbroken-holds s objects anywhere e q.1).1)

  mutual
    pub statement-narrow : (c : Bool) (x : Statement) → is_unbroken (broken_statement s c x) ≡ true → IsNarrowFlow s x
    statement-narrow c empty h = tt
    statement-narrow c (blocking t e) h = assignment-narrow c t e h
    statement-narrow c (nonblocking t e) h = assignment-narrow c t e h
    statement-narrow c (if_then e x) h =
        let q = unbroken-also (broken s anywhere e) (broken_statement s c x) h in
        ((unbroken-holds s objects anywhere e q.0).1, statement-narrow c x q.1)
    statement-narrow c (if_else e x y) h =
        let q = unbroken-also (broken s anywhere e) (also (broken_statement s c x) (broken_statement s c y)) h in
        let r = unbroken-also (broken_statement s c x) (broken_statement s c y) q.1 in
        ((unbroken-holds s objects anywhere e q.0).1, statement-narrow c x r.0, statement-narrow c y r.1)
    statement-narrow c (case kind e items) h =
        let q = unbroken-also (broken s anywhere e) (broken_arms s c kind items) h in
        ((unbroken-holds s objects anywhere e q.0).1, arms-narrow c kind items q.1)
    statement-narrow c (block n xs) h = statements-narrow c xs h

    statements-narrow : (c : Bool) (xs : Statements) → is_unbroken (broken_statements s c xs) ≡ true → AreNarrowFlows s xs
    statements-narrow c no_statements h = tt
    statements-narrow c (statement x xs) h =
        let q = unbroken-also (broken_statement s c x) (broken_statements s c xs) h in
        (statement-narrow c x q.0, statements-narrow c xs q.1)

    arms-narrow : (c : Bool) (kind : CaseKind) (items : CaseItems) → is_unbroken (broken_arms s c kind items) ≡ true → AreNarrowArms s items
    arms-narrow c kind no_items h = tt
    arms-narrow c kind (arm es x items) h =
        let q = unbroken-also (broken_items s kind es) (also (broken_statement s c x) (broken_arms s c kind items)) h in
        let r = unbroken-also (broken_statement s c x) (broken_arms s c kind items) q.1 in
        (values-narrow kind es q.0, statement-narrow c x r.0, arms-narrow c kind items r.1)
    arms-narrow c kind (default_arm x items) h =
        let q = unbroken-also (broken_statement s c x) (broken_arms s c kind items) h in
        (statement-narrow c x q.0, arms-narrow c kind items q.1)
