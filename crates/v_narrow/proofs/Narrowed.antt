-- Expressions whose test is true are narrow.
use Rattle.std.proofs.Common.{◌≡◌, ◌^◌, Bool, true, false, ◌&&◌, refl, sym, ◌∙◌, List}
use Rattle.std.proofs.lemmas.Bool.{false≢true}
use Rattle.std.proofs.lemmas.Bool.Decides.{Decides-and, Decides-ltb}
use Rattle.verilog_trees.specs.Syntax.{Expression, number, name, concatenation, replication, as_signed, as_unsigned, unary, reduction, binary, shift, power, comparison, logical, conditional, Expressions, no_expressions, expression, Select, index, part, part_up, part_down, Selects, whole, one, two}
use Rattle.verilog_meaning.specs.Expression.{Object, Scope, width_of, selects_width, widths_of}
use Rattle.v_syntax.specs.declared.tree.Expression.{Expression as CodeExpression}
use Rattle.v_syntax.specs.Tree.{expressions_of}
use Rattle.v_value.specs.Narrow.{IsWidth, IsNarrow, AreNarrow, IsSelectNarrow, AreSelectsNarrow, HasNarrowObjects}
use Rattle.v_narrow.specs.Test.{is_width, narrow_test, all_test, select_test, selects_test, narrow_at, select_narrow_at, parts_test}
use Rattle.v_narrow.proofs.Decided.{width-decides}
use Rattle.v_narrow.proofs.Arms.{all_parts}

both : (a b : Bool) → a && b ≡ true → (a ≡ true) × (b ≡ true)
both true b e = (refl, e)
both false b e = absurd (false≢true e)

all_three : (a b c : Bool) → a && (b && c) ≡ true → (a ≡ true) × (b ≡ true) × (c ≡ true)
all_three true b c e = let h = both b c e in (refl, h.0, h.1)
all_three false b c e = absurd (false≢true e)

-- t says whether all objects are narrow
module _ (t : Bool) (s : Scope) (known : t ≡ true → HasNarrowObjects s) where
  mutual
    pub narrow-holds : (e : Expression) → narrow_test t s e ≡ true → IsNarrow s e
    narrow-holds (number k) h = (Decides-and _ _ (width-decides k.width) (Decides-ltb k.value (2 ^ k.width))).0 h
    narrow-holds (name n x) h = selects-hold (s n) x h
    narrow-holds (concatenation es) h =
        let p = both (all_test t s es) (is_width (widths_of s es)) h in ((width-decides (widths_of s es)).0 p.1, all-hold es p.0)
    narrow-holds (replication k es) h =
        let p = both (t && (narrow_test t s k && all_test t s es)) (is_width (width_of s (replication k es))) h in
        let q = all_three t (narrow_test t s k) (all_test t s es) p.0 in
        ((width-decides (width_of s (replication k es))).0 p.1, known q.0, narrow-holds k q.1, all-hold es q.2)
    narrow-holds (as_signed x) h = narrow-holds x h
    narrow-holds (as_unsigned x) h = narrow-holds x h
    narrow-holds (unary op x) h = narrow-holds x h
    narrow-holds (reduction op x) h = narrow-holds x h
    narrow-holds (binary op x y) h = let p = both (narrow_test t s x) (narrow_test t s y) h in (narrow-holds x p.0, narrow-holds y p.1)
    narrow-holds (shift op x n) h = let p = both (narrow_test t s x) (narrow_test t s n) h in (narrow-holds x p.0, narrow-holds n p.1)
    narrow-holds (power x n) h = let p = both (narrow_test t s x) (narrow_test t s n) h in (narrow-holds x p.0, narrow-holds n p.1)
    narrow-holds (comparison op x y) h = let p = both (narrow_test t s x) (narrow_test t s y) h in (narrow-holds x p.0, narrow-holds y p.1)
    narrow-holds (logical op x y) h = let p = both (narrow_test t s x) (narrow_test t s y) h in (narrow-holds x p.0, narrow-holds y p.1)
    narrow-holds (conditional c x y) h =
        let p = both (narrow_test t s c && narrow_test t s x) (narrow_test t s y) h in
        let q = both (narrow_test t s c) (narrow_test t s x) p.0 in
        (narrow-holds c q.0, narrow-holds x q.1, narrow-holds y p.1)

    pub all-hold : (es : Expressions) → all_test t s es ≡ true → AreNarrow s es
    all-hold no_expressions h = tt
    all-hold (expression e es) h = let p = both (narrow_test t s e) (all_test t s es) h in (narrow-holds e p.0, all-hold es p.1)

    pub select-holds : (x : Select) → select_test t s x ≡ true → IsSelectNarrow s x
    select-holds (index i) h = narrow-holds i h
    select-holds (part a b) h =
        let p = all_three t (narrow_test t s a) (narrow_test t s b) h in (known p.0, narrow-holds a p.1, narrow-holds b p.2)
    select-holds (part_up a b) h =
        let p = all_three t (narrow_test t s a) (narrow_test t s b) h in (known p.0, narrow-holds a p.1, narrow-holds b p.2)
    select-holds (part_down a b) h =
        let p = all_three t (narrow_test t s a) (narrow_test t s b) h in (known p.0, narrow-holds a p.1, narrow-holds b p.2)

    selects-hold : (o : Object) (x : Selects) → selects_test t s o x ≡ true → IsWidth (selects_width s o x) × AreSelectsNarrow s x
    selects-hold o whole h = ((width-decides (selects_width s o whole)).0 h, tt)
    selects-hold o (one x) h =
        let p = both (select_test t s x) (is_width (selects_width s o (one x))) h in ((width-decides (selects_width s o (one x))).0 p.1, select-holds x p.0)
    selects-hold o (two x y) h =
        let p = both (select_test t s x && select_test t s y) (is_width (selects_width s o (two x y))) h in
        let q = both (select_test t s x) (select_test t s y) p.0 in
        ((width-decides (selects_width s o (two x y))).0 p.1, (select-holds x q.0, select-holds y q.1))

  -- where a program returned the test and it is true, the expression is narrow
  pub narrow_if : (e : Expression) (r : Bool) → r ≡ narrow_at t s e → r ≡ true → IsNarrow s e
  unfolding narrow_at
  narrow_if e r i h = narrow-holds e (sym i ∙ h)

  pub select_if : (x : Select) (r : Bool) → r ≡ select_narrow_at t s x → r ≡ true → IsSelectNarrow s x
  unfolding select_narrow_at
  select_if x r i h = select-holds x (sym i ∙ h)

  -- parts whose test is true
  pub parts_if : (es : List CodeExpression) (r : Bool) → r ≡ parts_test t s es → r ≡ true → AreNarrow s (expressions_of es)
  parts_if es r i h = all-hold (expressions_of es) (all_parts t s es ∙ sym i ∙ h)

-- the other direction
conjunction : (a b : Bool) → a ≡ true → b ≡ true → a && b ≡ true
conjunction true b e f = f
conjunction false b e f = absurd (false≢true e)

module _ (t : Bool) (s : Scope) (known : HasNarrowObjects s → t ≡ true) where
  abbrev three : (a b : Bool) → t ≡ true → a ≡ true → b ≡ true → t && (a && b) ≡ true
  three a b h e f = conjunction t (a && b) h (conjunction a b e f)

  mutual
    pub narrow-told : (e : Expression) → IsNarrow s e → narrow_test t s e ≡ true
    narrow-told (number k) h = (Decides-and _ _ (width-decides k.width) (Decides-ltb k.value (2 ^ k.width))).1 h
    narrow-told (name n x) h = selects-told (s n) x h
    narrow-told (concatenation es) h =
        conjunction (all_test t s es) (is_width (widths_of s es)) (all-told es h.1) ((width-decides (widths_of s es)).1 h.0)
    narrow-told (replication k es) h =
        conjunction (t && (narrow_test t s k && all_test t s es)) (is_width (width_of s (replication k es)))
        (three (narrow_test t s k) (all_test t s es) (known h.1) (narrow-told k h.2) (all-told es h.3))
        ((width-decides (width_of s (replication k es))).1 h.0)
    narrow-told (as_signed x) h = narrow-told x h
    narrow-told (as_unsigned x) h = narrow-told x h
    narrow-told (unary op x) h = narrow-told x h
    narrow-told (reduction op x) h = narrow-told x h
    narrow-told (binary op x y) h = conjunction (narrow_test t s x) (narrow_test t s y) (narrow-told x h.0) (narrow-told y h.1)
    narrow-told (shift op x n) h = conjunction (narrow_test t s x) (narrow_test t s n) (narrow-told x h.0) (narrow-told n h.1)
    narrow-told (power x n) h = conjunction (narrow_test t s x) (narrow_test t s n) (narrow-told x h.0) (narrow-told n h.1)
    narrow-told (comparison op x y) h = conjunction (narrow_test t s x) (narrow_test t s y) (narrow-told x h.0) (narrow-told y h.1)
    narrow-told (logical op x y) h = conjunction (narrow_test t s x) (narrow_test t s y) (narrow-told x h.0) (narrow-told y h.1)
    narrow-told (conditional c x y) h =
        conjunction (narrow_test t s c && narrow_test t s x) (narrow_test t s y)
        (conjunction (narrow_test t s c) (narrow_test t s x) (narrow-told c h.0) (narrow-told x h.1)) (narrow-told y h.2)

    all-told : (es : Expressions) → AreNarrow s es → all_test t s es ≡ true
    all-told no_expressions h = refl
    all-told (expression e es) h = conjunction (narrow_test t s e) (all_test t s es) (narrow-told e h.0) (all-told es h.1)

    select-told : (x : Select) → IsSelectNarrow s x → select_test t s x ≡ true
    select-told (index i) h = narrow-told i h
    select-told (part a b) h = three (narrow_test t s a) (narrow_test t s b) (known h.0) (narrow-told a h.1) (narrow-told b h.2)
    select-told (part_up a b) h = three (narrow_test t s a) (narrow_test t s b) (known h.0) (narrow-told a h.1) (narrow-told b h.2)
    select-told (part_down a b) h = three (narrow_test t s a) (narrow_test t s b) (known h.0) (narrow-told a h.1) (narrow-told b h.2)

    selects-told : (o : Object) (x : Selects) → IsWidth (selects_width s o x) × AreSelectsNarrow s x → selects_test t s o x ≡ true
    selects-told o whole h = (width-decides (selects_width s o whole)).1 h.0
    selects-told o (one x) h =
        conjunction (select_test t s x) (is_width (selects_width s o (one x))) (select-told x h.1)
        ((width-decides (selects_width s o (one x))).1 h.0)
    selects-told o (two x y) h =
        conjunction (select_test t s x && select_test t s y) (is_width (selects_width s o (two x y)))
        (conjunction (select_test t s x) (select_test t s y) (select-told x h.1.0) (select-told y h.1.1))
        ((width-decides (selects_width s o (two x y))).1 h.0)

  -- where a program returned the test and the expression is narrow, it is true
  pub test_if : (e : Expression) (r : Bool) → r ≡ narrow_at t s e → IsNarrow s e → r ≡ true
  unfolding narrow_at
  test_if e r i h = i ∙ narrow-told e h
