-- Trees with other names break the same rules.
use Rattle.std.proofs.Common.{◌≡◌, Bool, true, false, cond, ◌&&◌, ◌||◌, ◌==◌, nat_le, [], ◌∷◌, refl, ap, ◌∙◌, Some, None, pos}
use Rattle.wb_values.specs.Value.{Name}
use Rattle.wb_values.specs.Choice.{some_if}
use Rattle.verilog_trees.specs.Syntax.{Expression, number, name, concatenation, replication, as_signed, as_unsigned, unary, reduction, binary, shift, power, comparison, logical, conditional, Expressions, no_expressions, expression, Select, index, part, part_up, part_down, Selects, whole, one, two, Target, place, joined, Targets, no_targets, target, CaseKind, Statement, empty, blocking, nonblocking, if_then, if_else, case, block, Statements, no_statements, statement, CaseItems, no_items, arm, default_arm}
use Rattle.verilog_meaning.specs.Expression.{Object, Scope, object_width, is_memory, no_values}
use Rattle.verilog_rules.specs.Expression.{nothing, also, is_unbroken, constant_if, width_if, Position, anywhere, constant, in_context, wider, by_name, by_total, copies, is_at_most_128, bits_between_bounds, is_over_128, by_bounds, is_below, is_unsized, divides, is_bad_divisor, is_bad_exponent, by_itself, as_constant, broken, broken_parts, broken_selects, broken_select, broken_bits, has_width, have_widths, selects_have_width, select_has_width, broken_constant, constant_number}
use Rattle.verilog_designs.specs.Expressions.{memory_if, target_has_width, targets_have_width, broken_target, broken_targets, writes_memory, one_writes_memory, by_constants, judged_item, broken_item, broken_items, broken_block_target, broken_statement, broken_statements, broken_arms}
use Rattle.verilog_renamed.specs.Renamed.{renamed_expression, renamed_expressions, renamed_select, renamed_selects, renamed_target, renamed_targets, renamed_statement, renamed_statements, renamed_case_items}
use Rattle.verilog_renamed.specs.Laws.{MeansTheSame, NamesTheSame}
use Rattle.verilog_renamed.specs.EachName.{EachIn, EachInAll, EachInSelect, EachInSelects, EachInTarget, EachInTargets, EachInStatement, EachInStatements, EachInItems}
use Rattle.verilog_renamed.specs.KnownNames.{IsRenamed, ArePartsTheSame}
use Rattle.verilog_renamed.proofs.KnownNames.{known_expressions, known_parts, known_targets}
use Rattle.flat_rules.specs.SameRules.{BreaksTheSame, ExpressionsBreakTheSame, TargetsBreakTheSame, StatementsBreakTheSame, AssignmentsBreakTheSame}

-- ---- what rests on the form of a tree alone

module _ (f : Name → Name) where
  unsized : (e : Expression) → is_unsized (renamed_expression f e) ≡ is_unsized e
  unsized (number k) = refl
  unsized (name n x) = refl
  unsized (concatenation es) = refl
  unsized (replication k es) = refl
  unsized (as_signed x) = refl
  unsized (as_unsigned x) = refl
  unsized (unary op x) = refl
  unsized (reduction op x) = refl
  unsized (binary op x y) = refl
  unsized (shift op x n) = refl
  unsized (power x n) = refl
  unsized (comparison op x y) = refl
  unsized (logical op x y) = refl
  unsized (conditional c x y) = refl

  judged : (kind : CaseKind) (e : Expression) → judged_item kind (renamed_expression f e) ≡ renamed_expression f (judged_item kind e)
  judged kind (number k) = refl
  judged kind (name n x) = refl
  judged kind (concatenation es) = refl
  judged kind (replication k es) = refl
  judged kind (as_signed x) = refl
  judged kind (as_unsigned x) = refl
  judged kind (unary op x) = refl
  judged kind (reduction op x) = refl
  judged kind (binary op x y) = refl
  judged kind (shift op x n) = refl
  judged kind (power x n) = refl
  judged kind (comparison op x y) = refl
  judged kind (logical op x y) = refl
  judged kind (conditional c x y) = refl

  named : (p : Position) (o : Object) (x : Selects) → by_name p o (renamed_selects f x) ≡ by_name p o x
  named p o whole = refl
  named p o (one (index i)) = refl
  named p o (one (part h l)) = refl
  named p o (one (part_up b n)) = refl
  named p o (one (part_down b n)) = refl
  named p o (two (index i) y) = refl
  named p o (two (part h l) y) = refl
  named p o (two (part_up b n) y) = refl
  named p o (two (part_down b n) y) = refl

pub each_judged : (P : Name → Type 0) (kind : CaseKind) (e : Expression) → EachIn P e → EachIn P (judged_item kind e)
each_judged P kind (number k) a = tt
each_judged P kind (name n x) a = a
each_judged P kind (concatenation es) a = a
each_judged P kind (replication k es) a = a
each_judged P kind (as_signed x) a = a
each_judged P kind (as_unsigned x) a = a
each_judged P kind (unary op x) a = a
each_judged P kind (reduction op x) a = a
each_judged P kind (binary op x y) a = a
each_judged P kind (shift op x n) a = a
each_judged P kind (power x n) a = a
each_judged P kind (comparison op x y) a = a
each_judged P kind (logical op x y) a = a
each_judged P kind (conditional c x y) a = a

-- ---- expressions

record SameParts (f : Name → Name) (s t : Scope) (es : Expressions) : Type 0 where
  have : have_widths t (renamed_expressions f es) ≡ have_widths s es
  rules : (p : Position) → broken_parts t p (renamed_expressions f es) ≡ broken_parts s p es

record SameSelect (f : Name → Name) (s t : Scope) (x : Select) : Type 0 where
  has : select_has_width t (renamed_select f x) ≡ select_has_width s x
  rules : (p : Position) → broken_select t p (renamed_select f x) ≡ broken_select s p x
  bit_rules : (o : Object) → broken_bits t o (renamed_select f x) ≡ broken_bits s o x

record SameSelects (f : Name → Name) (s t : Scope) (x : Selects) : Type 0 where
  has : (o : Object) → selects_have_width t o (renamed_selects f x) ≡ selects_have_width s o x
  rules : (p : Position) (o : Object) → broken_selects t p o (renamed_selects f x) ≡ broken_selects s p o x

module _ (f : Name → Name) (s t : Scope) where
  abbrev Same : Expression → Type 0
  Same e = BreaksTheSame f s t e

  abbrev Means : Expression → Type 0
  Means e = MeansTheSame f s t no_values no_values e

  mean : (e : Expression) → EachIn (IsRenamed f s t) e → Means e
  mean e a = known_expressions f s t no_values no_values e a (λ n. refl)

  widths : (es : Expressions) → EachInAll (IsRenamed f s t) es → ArePartsTheSame f s t no_values no_values es
  widths es a = known_parts f s t no_values no_values es a (λ n. refl)

  -- an expression by itself, and as a constant
  own : (p : Position) (e : Expression) → Same e → Means e
      → broken t (by_itself t p (has_width t (renamed_expression f e)) (renamed_expression f e)) (renamed_expression f e)
      ≡ broken s (by_itself s p (has_width s e) e) e
  own p e h m =
      h.rules (by_itself t p (has_width t (renamed_expression f e)) (renamed_expression f e))
      ∙ (λ i. broken s (in_context p (some_if (h.has i) (m.width i)) (m.sign i)) e)

  constant_rules : (e : Expression) → Same e → Means e → broken_constant t (renamed_expression f e) ≡ broken_constant s e
  constant_rules e h m =
      h.rules (as_constant t (has_width t (renamed_expression f e)) (renamed_expression f e))
      ∙ (λ i. broken s (constant (some_if (h.has i) (m.width i)) (m.sign i)) e)

  constant_same : (e : Expression) → Same e → Means e → constant_number t (renamed_expression f e) ≡ constant_number s e
  constant_same e h m =
      let r : broken_constant t (renamed_expression f e) ≡ broken_constant s e = constant_rules e h m in
      λ i. some_if (is_unbroken (r i)) (m.integer i)

  divisor : (p : Position) (y : Expression) → Same y → Means y
      → is_bad_divisor t p (renamed_expression f y) (is_unbroken (broken t p (renamed_expression f y))) ≡ is_bad_divisor s p y (is_unbroken (broken s p y))
  divisor anywhere y h m = refl
  divisor (constant None g) y h m = refl
  divisor (constant (Some w) g) y h m =
      let r : broken t (constant (Some w) g) (renamed_expression f y) ≡ broken s (constant (Some w) g) y = h.rules (constant (Some w) g) in
      λ i. is_unbroken (r i) && ((nat_le (m.width i) w && nat_le w 128) && (m.value w g i == 0))

  mutual
    breaks : (e : Expression) → EachIn (IsRenamed f s t) e → Same e
    breaks (number k) a = record { has = refl; rules = λ p. refl }
    breaks (name n x) a =
        let h : SameSelects f s t x = selects_break x a.1 in
        let o : t (f n) ≡ s n = a.0 in
        record {
          has = λ i. ((o i).is_declared && nat_le (object_width (o i)) 128) && h.has (o i) i;
          rules = λ p i. also (named f p (o i) x i) (h.rules p (o i) i);
        }
    breaks (concatenation es) a =
        let h : SameParts f s t es = parts_break es a in
        let w : ArePartsTheSame f s t no_values no_values es = widths es a in
        record {
          has = λ i. is_at_most_128 (some_if (h.have i) (w.widths i));
          rules = λ p i. also (by_total (some_if (h.have i) (w.widths i))) (h.rules p i);
        }
    breaks (replication k es) a =
        let c : Same k = breaks k a.0 in
        let m : Means k = mean k a.0 in
        let h : SameParts f s t es = parts_break es a.1 in
        let w : ArePartsTheSame f s t no_values no_values es = widths es a.1 in
        let n : constant_number t (renamed_expression f k) ≡ constant_number s k = constant_same k c m in
        let r : broken_constant t (renamed_expression f k) ≡ broken_constant s k = constant_rules k c m in
        record {
          has = λ i. is_at_most_128 (copies (n i) (some_if (h.have i) (w.widths i)));
          rules = λ p i.
              also (also (constant_if (is_below (pos 1) (n i))) (r i))
              (also (by_total (copies (n i) (some_if (h.have i) (w.widths i)))) (h.rules p i));
        }
    breaks (as_signed x) a = let h : Same x = breaks x a in record { has = h.has; rules = λ p. own p x h (mean x a) }
    breaks (as_unsigned x) a = let h : Same x = breaks x a in record { has = h.has; rules = λ p. own p x h (mean x a) }
    breaks (unary op x) a = let h : Same x = breaks x a in record { has = h.has; rules = λ p. h.rules p }
    breaks (reduction op x) a = let h : Same x = breaks x a in record { has = refl; rules = λ p. own p x h (mean x a) }
    breaks (binary op x y) a =
        let h : Same x = breaks x a.0 in
        let k : Same y = breaks y a.1 in
        record {
          has = λ i. h.has i && k.has i;
          rules = λ p.
              let bad = divisor p y k (mean y a.1) in
              λ i. also (h.rules p i) (also (constant_if (divides op && bad i)) (k.rules p i));
        }
    breaks (shift op x n) a =
        let h : Same x = breaks x a.0 in
        let k : Same n = breaks n a.1 in
        record { has = h.has; rules = λ p. let c = own p n k (mean n a.1) in λ i. also (h.rules p i) (c i) }
    breaks (power x n) a =
        let h : Same x = breaks x a.0 in
        let k : Same n = breaks n a.1 in
        let m : Means n = mean n a.1 in
        record {
          has = h.has;
          rules = λ p.
              let c = own p n k m in
              λ i. also (h.rules p i) (also (constant_if (is_bad_exponent p (some_if (is_unbroken (c i)) (m.integer i)))) (c i));
        }
    breaks (comparison op x y) a =
        let h : Same x = breaks x a.0 in
        let k : Same y = breaks y a.1 in
        let m : Means x = mean x a.0 in
        let n : Means y = mean y a.1 in
        record {
          has = refl;
          rules = λ p i.
              also (h.rules (in_context p (wider (some_if (h.has i) (m.width i)) (some_if (k.has i) (n.width i))) (m.sign i && n.sign i)) i)
              (k.rules (in_context p (wider (some_if (h.has i) (m.width i)) (some_if (k.has i) (n.width i))) (m.sign i && n.sign i)) i);
        }
    breaks (logical op x y) a =
        let h : Same x = breaks x a.0 in
        let k : Same y = breaks y a.1 in
        record { has = refl; rules = λ p. let b = own p x h (mean x a.0) in let c = own p y k (mean y a.1) in λ i. also (b i) (c i) }
    breaks (conditional c x y) a =
        let z : Same c = breaks c a.0 in
        let h : Same x = breaks x a.1 in
        let k : Same y = breaks y a.2 in
        record {
          has = λ i. h.has i && k.has i;
          rules = λ p. let b = own p c z (mean c a.0) in λ i. also (also (b i) (h.rules p i)) (k.rules p i);
        }

    parts_break : (es : Expressions) → EachInAll (IsRenamed f s t) es → SameParts f s t es
    parts_break no_expressions a = record { have = refl; rules = λ p. refl }
    parts_break (expression e es) a =
        let h : Same e = breaks e a.0 in
        let k : SameParts f s t es = parts_break es a.1 in
        record {
          have = λ i. h.has i && k.have i;
          rules = λ p. let b = own p e h (mean e a.0) in λ i. also (also (constant_if (unsized f e i)) (b i)) (k.rules p i);
        }

    select_breaks : (x : Select) → EachInSelect (IsRenamed f s t) x → SameSelect f s t x
    select_breaks (index e) a = record { has = refl; rules = λ p. own p e (breaks e a) (mean e a); bit_rules = λ o. refl }
    select_breaks (part h l) a =
        let b : constant_number t (renamed_expression f h) ≡ constant_number s h = constant_same h (breaks h a.0) (mean h a.0) in
        let c : constant_number t (renamed_expression f l) ≡ constant_number s l = constant_same l (breaks l a.1) (mean l a.1) in
        let x : broken_constant t (renamed_expression f h) ≡ broken_constant s h = constant_rules h (breaks h a.0) (mean h a.0) in
        let y : broken_constant t (renamed_expression f l) ≡ broken_constant s l = constant_rules l (breaks l a.1) (mean l a.1) in
        record {
          has = λ i. is_at_most_128 (bits_between_bounds (b i) (c i));
          rules = λ p i. also (x i) (y i);
          bit_rules = λ o i. by_bounds o (b i) (c i);
        }
    select_breaks (part_up b n) a =
        let c : constant_number t (renamed_expression f n) ≡ constant_number s n = constant_same n (breaks n a.1) (mean n a.1) in
        let y : broken_constant t (renamed_expression f n) ≡ broken_constant s n = constant_rules n (breaks n a.1) (mean n a.1) in
        record {
          has = λ i. is_at_most_128 (copies (c i) (Some 1));
          rules = λ p. let z = own p b (breaks b a.0) (mean b a.0) in λ i. also (z i) (also (constant_if (is_below (pos 1) (c i))) (y i));
          bit_rules = λ o i. width_if (is_over_128 (copies (c i) (Some 1)));
        }
    select_breaks (part_down b n) a =
        let c : constant_number t (renamed_expression f n) ≡ constant_number s n = constant_same n (breaks n a.1) (mean n a.1) in
        let y : broken_constant t (renamed_expression f n) ≡ broken_constant s n = constant_rules n (breaks n a.1) (mean n a.1) in
        record {
          has = λ i. is_at_most_128 (copies (c i) (Some 1));
          rules = λ p. let z = own p b (breaks b a.0) (mean b a.0) in λ i. also (z i) (also (constant_if (is_below (pos 1) (c i))) (y i));
          bit_rules = λ o i. width_if (is_over_128 (copies (c i) (Some 1)));
        }

    selects_break : (x : Selects) → EachInSelects (IsRenamed f s t) x → SameSelects f s t x
    selects_break whole a = record { has = λ o. refl; rules = λ p o. refl }
    selects_break (one x) a =
        let h : SameSelect f s t x = select_breaks x a in
        record {
          has = λ o i. is_memory o || h.has i;
          rules = λ p o i. also (h.rules p i) (cond (is_memory o) nothing (h.bit_rules o i));
        }
    selects_break (two x y) a =
        let h : SameSelect f s t x = select_breaks x a.0 in
        let k : SameSelect f s t y = select_breaks y a.1 in
        record { has = λ o. k.has; rules = λ p o i. also (h.rules p i) (also (k.rules p i) (k.bit_rules o i)) }

pub expressions_break_the_same : ExpressionsBreakTheSame
expressions_break_the_same f s t e a = breaks f s t e a

-- ---- targets

record SameTarget (f : Name → Name) (s t : Scope) (x : Target) : Type 0 where
  has : target_has_width t (renamed_target f x) ≡ target_has_width s x
  rules : (p : Position) → broken_target t p (renamed_target f x) ≡ broken_target s p x
  writes : writes_memory t (renamed_target f x) ≡ writes_memory s x

record SameTargets (f : Name → Name) (s t : Scope) (xs : Targets) : Type 0 where
  have : targets_have_width t (renamed_targets f xs) ≡ targets_have_width s xs
  rules : (p : Position) → broken_targets t p (renamed_targets f xs) ≡ broken_targets s p xs
  writes : one_writes_memory t (renamed_targets f xs) ≡ one_writes_memory s xs

module _ (f : Name → Name) (s t : Scope) where
  mutual
    target_breaks : (x : Target) → EachInTarget (IsRenamed f s t) x → SameTarget f s t x
    target_breaks (place n x) a =
        let e : BreaksTheSame f s t (name n x) = breaks f s t (name n x) a in
        let h : SameSelects f s t x = selects_break f s t x a.1 in
        let o : t (f n) ≡ s n = a.0 in
        record {
          has = e.has;
          rules = λ p i. also (named f anywhere (o i) x i) (h.rules p (o i) i);
          writes = λ i. is_memory (o i);
        }
    target_breaks (joined xs) a =
        let h : SameTargets f s t xs = targets_break xs a in
        let m : NamesTheSame f s t no_values no_values (joined xs) = known_targets f s t no_values no_values (joined xs) a (λ n. refl) in
        record {
          has = h.have;
          rules = λ p i. also (by_total (some_if (h.have i) (m.width i))) (h.rules p i);
          writes = h.writes;
        }

    targets_break : (xs : Targets) → EachInTargets (IsRenamed f s t) xs → SameTargets f s t xs
    targets_break no_targets a = record { have = refl; rules = λ p. refl; writes = refl }
    targets_break (target x xs) a =
        let h : SameTarget f s t x = target_breaks x a.0 in
        let k : SameTargets f s t xs = targets_break xs a.1 in
        record {
          have = λ i. h.has i && k.have i;
          rules = λ p i. also (h.rules p i) (k.rules p i);
          writes = λ i. h.writes i || k.writes i;
        }

pub targets_break_the_same : TargetsBreakTheSame
targets_break_the_same f s t x a =
    let h : SameTarget f s t x = target_breaks f s t x a in
    record { has = h.has; rules = h.rules; net_rules = λ p i. also (memory_if (h.writes i)) (h.rules p i) }

-- ---- statements

module _ (f : Name → Name) (s t : Scope) where
  block_target : (c : Bool) (x : Target) → EachInTarget (IsRenamed f s t) x → broken_block_target t c (renamed_target f x) ≡ broken_block_target s c x
  block_target true x a = (targets_break_the_same f s t x a).rules anywhere
  block_target false x a = (targets_break_the_same f s t x a).net_rules anywhere

  anywhere_same : (e : Expression) → EachIn (IsRenamed f s t) e → broken t anywhere (renamed_expression f e) ≡ broken s anywhere e
  anywhere_same e a = (breaks f s t e a).rules anywhere

  items_same : (kind : CaseKind) (es : Expressions) → EachInAll (IsRenamed f s t) es → broken_items t kind (renamed_expressions f es) ≡ broken_items s kind es
  items_same kind no_expressions a = refl
  items_same kind (expression e es) a =
      let one : broken_item t kind (renamed_expression f e) ≡ broken_item s kind e =
      ap (broken t anywhere) (judged f kind e) ∙ anywhere_same (judged_item kind e) (each_judged (IsRenamed f s t) kind e a.0) in
      let rest = items_same kind es a.1 in
      λ i. also (one i) (rest i)

  mutual
    statement_same : (c : Bool) (x : Statement) → EachInStatement (IsRenamed f s t) x → broken_statement t c (renamed_statement f x) ≡ broken_statement s c x
    statement_same c empty a = refl
    statement_same c (blocking x e) a = let h = block_target c x a.0 in let k = anywhere_same e a.1 in λ i. also (h i) (k i)
    statement_same c (nonblocking x e) a = let h = block_target c x a.0 in let k = anywhere_same e a.1 in λ i. also (h i) (k i)
    statement_same c (if_then e x) a = let h = anywhere_same e a.0 in let k = statement_same c x a.1 in λ i. also (h i) (k i)
    statement_same c (if_else e x y) a =
        let h = anywhere_same e a.0 in
        let k = statement_same c x a.1 in
        let l = statement_same c y a.2 in
        λ i. also (h i) (also (k i) (l i))
    statement_same c (case kind e items) a = let h = anywhere_same e a.0 in let k = arms_same c kind items a.1 in λ i. also (h i) (k i)
    statement_same c (block n xs) a = statements_same c xs a

    statements_same : (c : Bool) (xs : Statements) → EachInStatements (IsRenamed f s t) xs → broken_statements t c (renamed_statements f xs) ≡ broken_statements s c xs
    statements_same c no_statements a = refl
    statements_same c (statement x xs) a = let h = statement_same c x a.0 in let k = statements_same c xs a.1 in λ i. also (h i) (k i)

    arms_same : (c : Bool) (kind : CaseKind) (items : CaseItems) → EachInItems (IsRenamed f s t) items
        → broken_arms t c kind (renamed_case_items f items) ≡ broken_arms s c kind items
    arms_same c kind no_items a = refl
    arms_same c kind (arm es x items) a =
        let h = items_same kind es a.0 in
        let k = statement_same c x a.1 in
        let l = arms_same c kind items a.2 in
        λ i. also (h i) (also (k i) (l i))
    arms_same c kind (default_arm x items) a = let k = statement_same c x a.0 in let l = arms_same c kind items a.1 in λ i. also (k i) (l i)

pub statements_break_the_same : StatementsBreakTheSame
statements_break_the_same f s t c x a = statement_same f s t c x a

-- ---- assignments

pub assignments_break_the_same : AssignmentsBreakTheSame
assignments_break_the_same f s t [] a = refl
assignments_break_the_same f s t (x ∷ xs) a =
    let h = (targets_break_the_same f s t x.0 a.0.0).net_rules by_constants in
    let k = anywhere_same f s t x.1 a.0.1 in
    let l = assignments_break_the_same f s t xs a.1 in
    λ i. also (also (h i) (k i)) (l i)
