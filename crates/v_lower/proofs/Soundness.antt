-- What is sound of the parts of a sound expression.
use Rattle.std.proofs.Common.{◌≡◌, ◌∙◌, ◌≤◌, ℕ, refl, sym, ap, subst, Bool, true, false, not, cond, ◌&&◌, ◌||◌, nat_le, nat_lt, Option, Some, None, is_some, List, [], ◌∷◌, pos}
use Rattle.std.proofs.lemmas.Bool.{false≢true}
use borrow.Author.Tests.{le-leb}
use Rattle.std.specs.declared.boxed.Box.{Box}
use Rattle.std.specs.declared.vec.Vec.{Vec}
use Rattle.std.specs.declared.alloc.Global.{Global}
use Rattle.wb_values.specs.Value.{Name}
use Rattle.wb_values.specs.Choice.{some_if}
use Rattle.verilog_trees.specs.Syntax as pure
use Rattle.verilog_trees.specs.Syntax.{number, name, concatenation, replication, as_signed, as_unsigned, unary, reduction, binary, shift, power, comparison, logical, conditional, no_expressions, expression, index, part, part_up, part_down, whole, one, two}
use Rattle.verilog_meaning.specs.Expression.{Object, Scope, object_width, is_memory, no_values, integer_of, width_of, widths_of, sign_of, selects_width}
use Rattle.verilog_rules.specs.Expression.{Broken, Position, anywhere, nothing, also, is_unbroken, constant_if, by_number, by_name, by_total, copies, is_below, divides, is_bad_divisor, is_bad_exponent, is_unsized, number_if, as_constant, wider, is_index, lacks_index, has_bad_select, has_many_words, broken, broken_parts, broken_selects, broken_select, broken_bits, has_width, have_widths}
use Rattle.v_syntax.specs.declared.tree.PrefixOperator.{PrefixOperator}
use Rattle.v_syntax.specs.declared.tree.PrefixOperator.TheVariants.{Plus}
use Rattle.v_syntax.specs.declared.tree.BinaryOperator.{BinaryOperator}
use Rattle.v_syntax.specs.declared.tree.BinaryOperator.TheVariants.{Power, Multiply, Divide, Modulo, Add, Subtract, ShiftLeft, ShiftRight, ArithmeticShiftRight, And, Xor, Xnor, Or}
use Rattle.v_syntax.specs.declared.tree.TestOperator.{TestOperator}
use Rattle.v_syntax.specs.declared.tree.TestOperator.TheVariants.{Less, LessOrEqual, Greater, GreaterOrEqual, Equal, NotEqual, Both, Either}
use Rattle.v_syntax.specs.declared.tree.BinaryLink.{BinaryLink}
use Rattle.v_syntax.specs.declared.tree.TestLink.{TestLink}
use Rattle.v_syntax.specs.declared.tree.Choice.{Choice}
use Rattle.v_syntax.specs.declared.tree.Expression.{Expression}
use Rattle.v_syntax.specs.Tree.{tree_of, prefixed, all_prefixed, combined, tested, expressions_of}
use Rattle.v_syntax.specs.Chain.{linked, test_linked, chosen}
use Rattle.v_value.specs.Narrow.{IsWidth, IsNarrow, HasNarrowObjects}
use Rattle.v_size.proofs.Unbroken.{unbroken-also, unbroken-holds}
use Rattle.v_lower.specs.Lowered.{has_sort}
use Rattle.v_lower.specs.Walking.{sound_at, IsSound, has_term, AreLinksSound, AreTestsSound, AreChoicesSound, ArePartsSound, IsSelectSound, IsIndex, AreSelectsSound, IsNameSound}

pair : (a b : Bool) → a && b ≡ true → (a ≡ true) × (b ≡ true)
pair true b e = (refl, e)
pair false b e = absurd (false≢true e)

not-true : (a : Bool) → not a ≡ true → a ≡ false
not-true false e = refl
not-true true e = absurd (false≢true e)

not-false : (a : Bool) → not a ≡ false → a ≡ true
not-false true e = refl
not-false false e = absurd (false≢true (sym e))

or-left : (a b : Bool) → a || b ≡ false → a ≡ false
or-left false b e = refl
or-left true b e = absurd (false≢true (sym e))

or-right : (a b : Bool) → a || b ≡ false → b ≡ false
or-right false b e = e
or-right true b e = absurd (false≢true (sym e))

and-right : (a b : Bool) → a ≡ true → a && b ≡ false → b ≡ false
and-right true b h e = e
and-right false b h e = absurd (false≢true h)

pub sound-narrow : (s : Scope) (e : pure.Expression) → HasNarrowObjects s → IsSound s e → IsNarrow s e
unfolding sound_at
sound-narrow s e objects h = (unbroken-holds s objects anywhere e h).1

-- ---- one operand

pub sound-signed : (s : Scope) (x : pure.Expression) → IsSound s (as_signed x) → IsSound s x
unfolding sound_at
sound-signed s x h = h

pub sound-unsigned : (s : Scope) (x : pure.Expression) → IsSound s (as_unsigned x) → IsSound s x
unfolding sound_at
sound-unsigned s x h = h

sound-prefixed : (s : Scope) (o : PrefixOperator) (x : pure.Expression) → IsSound s (prefixed o x) → IsSound s x
unfolding sound_at
sound-prefixed s Plus x h = h
sound-prefixed s _ x h = h

pub sound-all_prefixed : (s : Scope) (os : List PrefixOperator) (x : pure.Expression) → IsSound s (all_prefixed os x) → IsSound s x
sound-all_prefixed s [] x h = h
sound-all_prefixed s (o ∷ os) x h = sound-all_prefixed s os x (sound-prefixed s o (all_prefixed os x) h)

-- ---- chains of operators

plain-sound : (s : Scope) (op : pure.BinaryOperator) (x y : pure.Expression) → divides op ≡ false → is_unbroken (broken s anywhere (binary op x y)) ≡ true → (is_unbroken (broken s anywhere x) ≡ true) × (is_unbroken (broken s anywhere y) ≡ true)
plain-sound s op x y d h =
    let q = unbroken-also (broken s anywhere x) (also (constant_if (divides op && is_bad_divisor s anywhere y (is_unbroken (broken s anywhere y)))) (broken s anywhere y)) h in
    let r = unbroken-also (constant_if (divides op && is_bad_divisor s anywhere y (is_unbroken (broken s anywhere y)))) (broken s anywhere y) q.1 in
    (q.0, r.1)

divided-unsound : (s : Scope) (op : pure.BinaryOperator) (x y : pure.Expression) → divides op ≡ true → is_unbroken (broken s anywhere (binary op x y)) ≡ true → ⊥
divided-unsound s op x y d h =
    let q = unbroken-also (broken s anywhere x) (also (constant_if (divides op && is_bad_divisor s anywhere y (is_unbroken (broken s anywhere y)))) (broken s anywhere y)) h in
    let r = unbroken-also (constant_if (divides op && is_bad_divisor s anywhere y (is_unbroken (broken s anywhere y)))) (broken s anywhere y) q.1 in
    false≢true (subst (λ t. is_unbroken (constant_if (t && true)) ≡ true) d r.0)

shift-sound : (s : Scope) (op : pure.ShiftOperator) (x y : pure.Expression) → is_unbroken (broken s anywhere (shift op x y)) ≡ true → (is_unbroken (broken s anywhere x) ≡ true) × (is_unbroken (broken s anywhere y) ≡ true)
shift-sound s op x y h = unbroken-also (broken s anywhere x) (broken s anywhere y) h

power-unsound : (s : Scope) (x y : pure.Expression) → is_unbroken (broken s anywhere (power x y)) ≡ true → ⊥
power-unsound s x y h =
    let q = unbroken-also (broken s anywhere x) (also (constant_if true) (broken s anywhere y)) h in
    false≢true (unbroken-also (constant_if true) (broken s anywhere y) q.1).0

pub sound-combined : (s : Scope) (o : BinaryOperator) (x y : pure.Expression) → IsSound s (combined o x y) → IsSound s x × (has_term o ≡ true) × IsSound s y
unfolding sound_at
sound-combined s Power x y h = absurd (power-unsound s x y h)
sound-combined s Divide x y h = absurd (divided-unsound s pure.divide x y refl h)
sound-combined s Modulo x y h = absurd (divided-unsound s pure.modulo x y refl h)
sound-combined s Multiply x y h = let q = plain-sound s pure.multiply x y refl h in (q.0, refl, q.1)
sound-combined s Add x y h = let q = plain-sound s pure.add x y refl h in (q.0, refl, q.1)
sound-combined s Subtract x y h = let q = plain-sound s pure.subtract x y refl h in (q.0, refl, q.1)
sound-combined s And x y h = let q = plain-sound s pure.bitwise_and x y refl h in (q.0, refl, q.1)
sound-combined s Xor x y h = let q = plain-sound s pure.bitwise_xor x y refl h in (q.0, refl, q.1)
sound-combined s Xnor x y h = let q = plain-sound s pure.bitwise_xnor x y refl h in (q.0, refl, q.1)
sound-combined s Or x y h = let q = plain-sound s pure.bitwise_or x y refl h in (q.0, refl, q.1)
sound-combined s ShiftLeft x y h = let q = shift-sound s pure.left x y h in (q.0, refl, q.1)
sound-combined s ShiftRight x y h = let q = shift-sound s pure.right x y h in (q.0, refl, q.1)
sound-combined s ArithmeticShiftRight x y h = let q = shift-sound s pure.arithmetic_right x y h in (q.0, refl, q.1)

pub sound-linked : (s : Scope) (ls : List BinaryLink) (x : pure.Expression) → IsSound s (linked ls x) → IsSound s x × AreLinksSound s ls
sound-linked s [] x h = (h, tt)
sound-linked s (l ∷ ls) x h =
    let g = sound-linked s ls (combined l.operator x (tree_of l.operand)) h in
    let f = sound-combined s l.operator x (tree_of l.operand) g.0 in
    (f.0, (f.1, f.2, g.1))

-- ---- tests

comparison-sound : (s : Scope) (op : pure.ComparisonOperator) (x y : pure.Expression) → is_unbroken (broken s anywhere (comparison op x y)) ≡ true → (is_unbroken (broken s anywhere x) ≡ true) × (is_unbroken (broken s anywhere y) ≡ true)
comparison-sound s op x y h = unbroken-also (broken s anywhere x) (broken s anywhere y) h

logical-sound : (s : Scope) (op : pure.LogicalOperator) (x y : pure.Expression) → is_unbroken (broken s anywhere (logical op x y)) ≡ true → (is_unbroken (broken s anywhere x) ≡ true) × (is_unbroken (broken s anywhere y) ≡ true)
logical-sound s op x y h = unbroken-also (broken s anywhere x) (broken s anywhere y) h

pub sound-tested : (s : Scope) (o : TestOperator) (x y : pure.Expression) → IsSound s (tested o x y) → IsSound s x × IsSound s y
unfolding sound_at
sound-tested s Less x y h = comparison-sound s pure.less x y h
sound-tested s LessOrEqual x y h = comparison-sound s pure.less_or_equal x y h
sound-tested s Greater x y h = comparison-sound s pure.greater x y h
sound-tested s GreaterOrEqual x y h = comparison-sound s pure.greater_or_equal x y h
sound-tested s Equal x y h = comparison-sound s pure.equal x y h
sound-tested s NotEqual x y h = comparison-sound s pure.not_equal x y h
sound-tested s Both x y h = logical-sound s pure.both x y h
sound-tested s Either x y h = logical-sound s pure.either x y h

pub sound-test_linked : (s : Scope) (ls : List TestLink) (x : pure.Expression) → IsSound s (test_linked ls x) → IsSound s x × AreTestsSound s ls
sound-test_linked s [] x h = (h, tt)
sound-test_linked s (l ∷ ls) x h =
    let g = sound-test_linked s ls (tested l.operator x (tree_of l.operand)) h in
    let f = sound-tested s l.operator x (tree_of l.operand) g.0 in
    (f.0, (f.1, g.1))

-- ---- choices

sound-conditional : (s : Scope) (c x y : pure.Expression) → IsSound s (conditional c x y) → IsSound s c × IsSound s x × IsSound s y
unfolding sound_at
sound-conditional s c x y h =
    let q = unbroken-also (also (broken s anywhere c) (broken s anywhere x)) (broken s anywhere y) h in
    let r = unbroken-also (broken s anywhere c) (broken s anywhere x) q.0 in
    (r.0, r.1, q.1)

pub sound-chosen : (s : Scope) (cs : List Choice) (y : pure.Expression) → IsSound s (chosen cs y) → AreChoicesSound s cs × IsSound s y
sound-chosen s [] y h = (tt, h)
sound-chosen s (c ∷ cs) y h =
    let f = sound-conditional s (tree_of c.condition) (tree_of c.value) (chosen cs y) h in
    let g = sound-chosen s cs y f.2 in
    ((f.0, f.1, g.0), g.1)

-- ---- parts

parts-sound : (s : Scope) (es : List Expression) → is_unbroken (broken_parts s anywhere (expressions_of es)) ≡ true → ArePartsSound s es
unfolding sound_at
parts-sound s [] h = tt
parts-sound s (e ∷ es) h =
    let q = unbroken-also (also (constant_if (is_unsized (tree_of e))) (broken s anywhere (tree_of e))) (broken_parts s anywhere (expressions_of es)) h in
    let r = unbroken-also (constant_if (is_unsized (tree_of e))) (broken s anywhere (tree_of e)) q.0 in
    (r.1, parts-sound s es q.1)

pub sound-concatenation : (s : Scope) (es : List Expression) → IsSound s (concatenation (expressions_of es)) → ArePartsSound s es
unfolding sound_at
sound-concatenation s es h =
    let q = unbroken-also (by_total (some_if (have_widths s (expressions_of es)) (widths_of s (expressions_of es)))) (broken_parts s anywhere (expressions_of es)) h in
    parts-sound s es q.1

pub sound-replication : (s : Scope) (k : pure.Expression) (es : List Expression) → IsSound s (replication k (expressions_of es)) → ArePartsSound s es
unfolding sound_at
sound-replication s k es h =
    let b : Broken = broken s (as_constant s (has_width s k) k) k in
    let q = unbroken-also (also (constant_if (is_below (pos 1) (number_if b s k))) b) (also (by_total (copies (number_if b s k) (some_if (have_widths s (expressions_of es)) (widths_of s (expressions_of es))))) (broken_parts s anywhere (expressions_of es))) h in
    let v = unbroken-also (by_total (copies (number_if b s k) (some_if (have_widths s (expressions_of es)) (widths_of s (expressions_of es))))) (broken_parts s anywhere (expressions_of es)) q.1 in
    parts-sound s es v.1

-- ---- names

-- three of seven rules, none of which is broken
three : (u x c w t m q : Bool) → not u && (not x && (not c && (not w && (not t && (not m && not q))))) ≡ true → (u ≡ false) × (t ≡ false) × (m ≡ false)
three u x c w t m q h =
    let p1 = pair (not u) (not x && (not c && (not w && (not t && (not m && not q))))) h in
    let p2 = pair (not x) (not c && (not w && (not t && (not m && not q)))) p1.1 in
    let p3 = pair (not c) (not w && (not t && (not m && not q))) p2.1 in
    let p4 = pair (not w) (not t && (not m && not q)) p3.1 in
    let p5 = pair (not t) (not m && not q) p4.1 in
    let p6 = pair (not m) (not q) p5.1 in
    (not-true u p1.0, not-true t p5.0, not-true m p6.0)

-- the rules that a name breaks by itself
module _ (o : Object) (x : pure.Selects) (h : is_unbroken (by_name anywhere o x) ≡ true) where
  kept : (not o.is_declared ≡ false) × (o.is_declared && has_bad_select o x ≡ false) × (o.is_declared && (is_memory o && (lacks_index x || has_many_words o.addresses)) ≡ false)
  kept =
      three (not o.is_declared) false (o.is_declared && false) (o.is_declared && nat_lt 128 (object_width o)) (o.is_declared && has_bad_select o x) (o.is_declared && (is_memory o && (lacks_index x || has_many_words o.addresses))) false h

  declared : o.is_declared ≡ true
  declared = not-false o.is_declared kept.0

  no_bad_select : has_bad_select o x ≡ false
  no_bad_select = and-right o.is_declared (has_bad_select o x) declared kept.1

  no_memory_use : is_memory o && (lacks_index x || has_many_words o.addresses) ≡ false
  no_memory_use = and-right o.is_declared (is_memory o && (lacks_index x || has_many_words o.addresses)) declared kept.2

  indexed : is_memory o ≡ true → lacks_index x ≡ false
  indexed m = or-left (lacks_index x) (has_many_words o.addresses) (and-right (is_memory o) (lacks_index x || has_many_words o.addresses) m no_memory_use)

  few_words : has_many_words o.addresses ≡ false
  few_words = by_addresses o.addresses no_memory_use where
    by_addresses : (a : Option (ℕ × ℕ)) → is_some a && (lacks_index x || has_many_words a) ≡ false → has_many_words a ≡ false
    by_addresses None e = refl
    by_addresses (Some a) e = or-right (lacks_index x) (has_many_words (Some a)) e

  sorted : object_width o ≤ 128 → has_sort o ≡ true
  sorted w = ap (λ t. t && (nat_le (object_width o) 128 && not (has_many_words o.addresses))) declared ∙ (ap (λ t. t && not (has_many_words o.addresses)) (le-leb _ _ w) ∙ ap not few_words)

an_index : (x : pure.Select) → not (is_index x) ≡ false → IsIndex x
an_index (index i) h = tt
an_index (part k l) h = absurd (false≢true (sym h))
an_index (part_up b n) h = absurd (false≢true (sym h))
an_index (part_down b n) h = absurd (false≢true (sym h))

select-sound : (s : Scope) (x : pure.Select) → is_unbroken (broken_select s anywhere x) ≡ true → IsSelectSound s x
unfolding sound_at
select-sound s (index i) h = h
select-sound s (part k l) h = tt
select-sound s (part_up b n) h = (unbroken-also (broken s anywhere b) (also (constant_if (is_below (pos 1) (number_if (broken s (as_constant s (has_width s n) n) n) s n))) (broken s (as_constant s (has_width s n) n) n)) h).0
select-sound s (part_down b n) h = (unbroken-also (broken s anywhere b) (also (constant_if (is_below (pos 1) (number_if (broken s (as_constant s (has_width s n) n) n) s n))) (broken s (as_constant s (has_width s n) n) n)) h).0

selects-sound : (s : Scope) (o : Object) (x : pure.Selects) → is_unbroken (by_name anywhere o x) ≡ true → is_unbroken (broken_selects s anywhere o x) ≡ true → AreSelectsSound s o x
selects-sound s o whole h g = none (is_memory o) (no_memory_use o whole h) where
  none : (m : Bool) → m && (true || has_many_words o.addresses) ≡ false → m ≡ false
  none false e = refl
  none true e = absurd (false≢true (sym e))
selects-sound s o (one x) h g =
    (select-sound s x (unbroken-also (broken_select s anywhere x) (cond (is_memory o) nothing (broken_bits s o x)) g).0, λ m. an_index x (indexed o (one x) h m))
selects-sound s o (two x y) h g =
    let m : is_memory o ≡ true = not-false (is_memory o) (or-left (not (is_memory o)) (not o.has_range) (no_bad_select o (two x y) h)) in
    let q = unbroken-also (broken_select s anywhere x) (also (broken_select s anywhere y) (broken_bits s o y)) g in
    let r = unbroken-also (broken_select s anywhere y) (broken_bits s o y) q.1 in
    (m, an_index x (indexed o (two x y) h m), select-sound s x q.0, select-sound s y r.0)

pub sound-name : (s : Scope) (n : Name) (x : pure.Selects) → HasNarrowObjects s → IsSound s (name n x) → IsNameSound s n x
unfolding sound_at
sound-name s n x objects h =
    let q = unbroken-also (by_name anywhere (s n) x) (broken_selects s anywhere (s n) x) h in
    let k = (unbroken-holds s objects anywhere (name n x) h).1 in
    record { sort = sorted (s n) x q.0 (objects n).0; sound = selects-sound s (s n) x q.0 q.1; narrow = k.1; width = k.0 }
