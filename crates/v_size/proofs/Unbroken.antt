-- An expression that breaks no rule has a width, and fits words.
use Rattle.std.proofs.Common.{◌≡◌, ◌≤◌, ◌<◌, ◌*◌, ◌^◌, ℕ, zero, suc, Bool, true, false, not, cond, ◌&&◌, ◌||◌, ◌==◌, nat_le, nat_lt, refl, sym, ap, subst, ◌∙◌, arith, Option, Some, None, ℤ, pos, negsuc, int_lt, int_le}
use Rattle.std.proofs.lemmas.Bool.{false≢true}
use Rattle.std.proofs.lemmas.Bool.Decides.{nat_tests}
use Rattle.wb_values.specs.Choice.{some_if}
use Rattle.verilog_trees.specs.Syntax.{Number, Expression, number, name, concatenation, replication, as_signed, as_unsigned, unary, reduction, binary, shift, power, comparison, logical, conditional, Expressions, no_expressions, expression, Select, index, part, part_up, part_down, Selects, whole, one, two}
use Rattle.verilog_meaning.specs.Expression.{Object, Scope, object_width, is_memory, no_values, natural_of, integer_of, sign_of, width_of, widths_of, selects_width, select_bits}
use Rattle.verilog_rules.specs.Expression.{Broken, Position, nothing, also, is_unbroken, constant_if, select_if, width_if, by_number, by_name, by_total, by_bounds, copies, count_between, bits_between_bounds, is_at_most_128, is_over_128, is_below, runs_against, divides, is_bad_divisor, is_bad_exponent, is_unsized, wider, number_if, as_constant, by_itself, in_context, broken, broken_parts, broken_selects, broken_select, broken_bits, has_width, have_widths, selects_have_width, select_has_width}
use Rattle.v_value.specs.Narrow.{IsWidth, IsNarrow, AreNarrow, IsSelectNarrow, AreSelectsNarrow, HasNarrowObjects}
use Rattle.v_value.proofs.Selected.{count-is}

pair : (a b : Bool) → a && b ≡ true → (a ≡ true) × (b ≡ true)
pair true b e = (refl, e)
pair false b e = absurd (false≢true e)

and-both : (a b : Bool) → a ≡ true → b ≡ true → a && b ≡ true
and-both a b i j = ap (λ z. z && b) i ∙ j

not-true : (a : Bool) → not a ≡ true → a ≡ false
not-true false e = refl
not-true true e = absurd (false≢true e)

declared : (d : Bool) → not (not d) ≡ true → d ≡ true
declared true e = refl
declared false e = absurd (false≢true e)

shaped : (l x : Bool) → l ≡ true → l && not x ≡ false → x ≡ true
shaped true true i e = refl
shaped true false i e = absurd (false≢true (sym e))
shaped false x i e = absurd (false≢true i)

-- two sets of rules of which together none is broken
base : (a b : Bool) → not (a || b) ≡ true → (not a ≡ true) × (not b ≡ true)
base false b e = (refl, e)
base true b e = absurd (false≢true e)

step : (a b r x y : Bool) → (r ≡ true → (x ≡ true) × (y ≡ true)) → not (a || b) && r ≡ true → (not a && x ≡ true) × (not b && y ≡ true)
step false false r x y k h = k h
step false true r x y k h = absurd (false≢true h)
step true b r x y k h = absurd (false≢true h)

pub unbroken-also : (a b : Broken) → is_unbroken (also a b) ≡ true → (is_unbroken a ≡ true) × (is_unbroken b ≡ true)
unbroken-also a b =
    step a.undeclared b.undeclared _ _ _ (step a.has_xz b.has_xz _ _ _ (step a.bad_constant b.bad_constant _ _ _
    (step a.width_over_128 b.width_over_128 _ _ _ (step a.bad_select b.bad_select _ _ _ (step a.memory_use b.memory_use _ _ _ (base a.misshapen b.misshapen))))))

pub constant-unbroken : (c : Bool) → is_unbroken (constant_if c) ≡ true → c ≡ false
constant-unbroken c h = not-true c (pair (not c) true h).0

pub width-unbroken : (c : Bool) → is_unbroken (width_if c) ≡ true → c ≡ false
width-unbroken c h = not-true c (pair (not c) true h).0

within : (w : ℕ) → nat_lt 128 w ≡ false → w ≤ 128
within w h = grind (arith, nat_tests, h)

tested : (w : ℕ) → w ≤ 128 → nat_le w 128 ≡ true
tested w h = grind (arith, nat_tests, h)

some : (w : ℕ) → not (w == 0) ≡ true → 1 ≤ w
some w h = grind (arith, nat_tests, h)

least : (w : ℕ) → nat_le 1 w ≡ true → 1 ≤ w
least w h = grind (arith, nat_tests, h)

below : (x y : ℕ) → nat_lt x y ≡ true → x < y
below x y h = grind (arith, nat_tests, h)

number-fits : (k : Number) → is_unbroken (by_number k) ≡ true → (nat_le k.width 128 ≡ true) × (IsWidth k.width × (k.value < 2 ^ k.width))
number-fits k h =
    let p = pair (not (k.has_unknown || k.has_wild)) _ h in
    let q = pair (not (nat_lt 128 k.width)) _ p.1 in
    let most : k.width ≤ 128 = within k.width (not-true _ q.0) in
    let x = shaped (nat_le k.width 128) (nat_le 1 k.width && nat_lt k.value (2 ^ k.width)) (tested k.width most) (not-true _ q.1) in
    let y = pair (nat_le 1 k.width) (nat_lt k.value (2 ^ k.width)) x in
    (tested k.width most, ((least k.width y.0, most), below k.value (2 ^ k.width) y.1))

name-declared : (p : Position) (o : Object) (x : Selects) → is_unbroken (by_name p o x) ≡ true → o.is_declared ≡ true
name-declared p o x h = declared o.is_declared (pair (not (not o.is_declared)) _ h).0

pub total-fits : (h : Bool) (w : ℕ) → h ≡ true → is_unbroken (by_total (some_if h w)) ≡ true → (is_at_most_128 (some_if h w) ≡ true) × IsWidth w
total-fits true w e g =
    let p = pair (not (nat_lt 128 w)) _ g in
    let most : w ≤ 128 = within w (not-true _ p.0) in
    (tested w most, (some w p.1, most))
total-fits false w e g = absurd (false≢true e)

-- a count that is not below 1
from-one : (n : ℤ) → int_lt n (pos 1) ≡ false → int_le (pos 1) n ≡ true
from-one (pos k) h = grind (arith, nat_tests, h)
from-one (negsuc k) h = absurd (false≢true (sym h))

copies-fit : (a : Option ℤ) (n : ℤ) → a ≡ Some n → is_below (pos 1) a ≡ false → (h : Bool) (w : ℕ) → h ≡ true → is_unbroken (by_total (copies a (some_if h w))) ≡ true →
    (is_at_most_128 (copies a (some_if h w)) ≡ true) × IsWidth (natural_of n * w)
copies-fit a n i b true w e g =
    let c : int_le (pos 1) n ≡ true = from-one n (sym (ap (is_below (pos 1)) i) ∙ b) in
    let r = total-fits (int_le (pos 1) n) (natural_of n * w) c (subst (λ z. is_unbroken (by_total (copies z (Some w))) ≡ true) i g) in
    (ap (λ z. is_at_most_128 (copies z (Some w))) i ∙ r.0, r.1)
copies-fit a n i b false w e g = absurd (false≢true e)

over-none : (a : Option ℕ) → is_over_128 a ≡ false → (w : ℕ) → a ≡ Some w → w ≤ 128
over-none a h w i = within w (sym (ap is_over_128 i) ∙ h)

some_count : (h l : ℤ) → 1 ≤ count_between h l
some_count h l = omega arith

-- so many bits of a select by its count
counted-fit : (a : Option ℤ) (n : ℤ) → a ≡ Some n → is_below (pos 1) a ≡ false → is_over_128 (copies a (Some 1)) ≡ false → (is_at_most_128 (copies a (Some 1)) ≡ true) × IsWidth (natural_of n)
counted-fit a (pos k) i b g =
    let c : 1 ≤ k = let h : int_lt (pos k) (pos 1) ≡ false = sym (ap (is_below (pos 1)) i) ∙ b in grind (arith, nat_tests, h) in
    let d : int_le (pos 1) (pos k) ≡ true = from-one (pos k) (sym (ap (is_below (pos 1)) i) ∙ b) in
    let e : copies a (Some 1) ≡ Some (k * 1) = ap (λ z. copies z (Some 1)) i ∙ ap (λ z. some_if z (k * 1)) d in
    let most : k * 1 ≤ 128 = over-none (copies a (Some 1)) g (k * 1) e in
    (ap is_at_most_128 e ∙ tested (k * 1) most, (c, omega (arith, most)))
counted-fit a (negsuc k) i b g = absurd (false≢true (sym (sym (ap (is_below (pos 1)) i) ∙ b)))

module _ (s : Scope) (objects : HasNarrowObjects s) where
  number-known : (b : Broken) (k : Expression) → is_unbroken b ≡ true → number_if b s k ≡ Some (integer_of s no_values k)
  number-known b k h = ap (λ t. some_if t (integer_of s no_values k)) h

  -- the bits that a select takes
  bits-hold : (p : Position) (o : Object) (x : Select) → is_unbroken (broken_select s p x) ≡ true → is_unbroken (broken_bits s o x) ≡ true →
      (select_has_width s x ≡ true) × IsWidth (select_bits s no_values o x).count
  bits-hold p o (index i) e g = (refl, (omega arith, omega arith))
  bits-hold p o (part h l) e g =
      let q = unbroken-also (broken s (as_constant s (has_width s h) h) h) (broken s (as_constant s (has_width s l) l) l) e in
      let a : Option ℤ = number_if (broken s (as_constant s (has_width s h) h) h) s h in
      let b : Option ℤ = number_if (broken s (as_constant s (has_width s l) l) l) s l in
      let m : ℤ = integer_of s no_values h in
      let n : ℤ = integer_of s no_values l in
      let c : bits_between_bounds a b ≡ Some (count_between m n) = ap (λ z. bits_between_bounds z b) (number-known (broken s (as_constant s (has_width s h) h) h) h q.0) ∙ ap (bits_between_bounds (Some m)) (number-known (broken s (as_constant s (has_width s l) l) l) l q.1) in
      let r = unbroken-also (select_if (o.is_declared && runs_against o a b)) (width_if (is_over_128 (bits_between_bounds a b))) g in
      let most : count_between m n ≤ 128 = over-none (bits_between_bounds a b) (width-unbroken (is_over_128 (bits_between_bounds a b)) r.1) (count_between m n) c in
      (ap is_at_most_128 c ∙ tested (count_between m n) most, (some_count m n, most))
  bits-hold p o (part_up b n) e g =
      let q = unbroken-also (broken s (by_itself s p (has_width s b) b) b) (also (constant_if (is_below (pos 1) (number_if (broken s (as_constant s (has_width s n) n) n) s n))) (broken s (as_constant s (has_width s n) n) n)) e in
      let r = unbroken-also (constant_if (is_below (pos 1) (number_if (broken s (as_constant s (has_width s n) n) n) s n))) (broken s (as_constant s (has_width s n) n) n) q.1 in
      counted-fit (number_if (broken s (as_constant s (has_width s n) n) n) s n) (integer_of s no_values n) (number-known (broken s (as_constant s (has_width s n) n) n) n r.1) (constant-unbroken (is_below (pos 1) (number_if (broken s (as_constant s (has_width s n) n) n) s n)) r.0) (width-unbroken (is_over_128 (copies (number_if (broken s (as_constant s (has_width s n) n) n) s n) (Some 1))) g)
  bits-hold p o (part_down b n) e g =
      let q = unbroken-also (broken s (by_itself s p (has_width s b) b) b) (also (constant_if (is_below (pos 1) (number_if (broken s (as_constant s (has_width s n) n) n) s n))) (broken s (as_constant s (has_width s n) n) n)) e in
      let r = unbroken-also (constant_if (is_below (pos 1) (number_if (broken s (as_constant s (has_width s n) n) n) s n))) (broken s (as_constant s (has_width s n) n) n) q.1 in
      counted-fit (number_if (broken s (as_constant s (has_width s n) n) n) s n) (integer_of s no_values n) (number-known (broken s (as_constant s (has_width s n) n) n) n r.1) (constant-unbroken (is_below (pos 1) (number_if (broken s (as_constant s (has_width s n) n) n) s n)) r.0) (width-unbroken (is_over_128 (copies (number_if (broken s (as_constant s (has_width s n) n) n) s n) (Some 1))) g)

  -- what a name with one select reads, m saying whether it is a memory
  one-holds : (p : Position) (o : Object) (x : Select) → IsWidth (object_width o) → (m : Bool) → is_memory o ≡ m → is_unbroken (broken_select s p x) ≡ true → is_unbroken (cond m nothing (broken_bits s o x)) ≡ true →
      (selects_have_width s o (one x) ≡ true) × IsWidth (selects_width s o (one x))
  one-holds p o x w true i e g =
      (ap (λ z. z || select_has_width s x) i, subst (λ z. IsWidth (cond z (object_width o) (select_bits s no_values o x).count)) (sym i) w)
  one-holds p o x w false i e g =
      let r = bits-hold p o x e g in
      (ap (λ z. z || select_has_width s x) i ∙ r.0, subst (λ z. IsWidth (cond z (object_width o) (select_bits s no_values o x).count)) (sym i) r.1)

  mutual
    pub unbroken-holds : (p : Position) (e : Expression) → is_unbroken (broken s p e) ≡ true → (has_width s e ≡ true) × IsNarrow s e
    unbroken-holds p (number k) h = number-fits k h
    unbroken-holds p (name n x) h =
        let q = unbroken-also (by_name p (s n) x) (broken_selects s p (s n) x) h in
        let w : IsWidth (object_width (s n)) = (omega arith, (objects n).0) in
        let r = selects-hold p (s n) x w q.1 in (
          and-both ((s n).is_declared && nat_le (object_width (s n)) 128) (selects_have_width s (s n) x)
              (and-both (s n).is_declared (nat_le (object_width (s n)) 128) (name-declared p (s n) x q.0) (tested (object_width (s n)) w.1)) r.0,
          r.1,
        )
    unbroken-holds p (concatenation es) h =
        let q = unbroken-also (by_total (some_if (have_widths s es) (widths_of s es))) (broken_parts s p es) h in
        let r = parts-hold p es q.1 in
        let f = total-fits (have_widths s es) (widths_of s es) r.0 q.0 in
        (f.0, (f.1, r.1))
    unbroken-holds p (replication k es) h =
        let b : Broken = broken s (as_constant s (has_width s k) k) k in
        let q = unbroken-also (also (constant_if (is_below (pos 1) (number_if b s k))) b) (also (by_total (copies (number_if b s k) (some_if (have_widths s es) (widths_of s es)))) (broken_parts s p es)) h in
        let u = unbroken-also (constant_if (is_below (pos 1) (number_if b s k))) b q.0 in
        let v = unbroken-also (by_total (copies (number_if b s k) (some_if (have_widths s es) (widths_of s es)))) (broken_parts s p es) q.1 in
        let c = unbroken-holds (as_constant s (has_width s k) k) k u.1 in
        let r = parts-hold p es v.1 in
        let f = copies-fit (number_if b s k) (integer_of s no_values k) (number-known b k u.1) (constant-unbroken (is_below (pos 1) (number_if b s k)) u.0) (have_widths s es) (widths_of s es) r.0 v.0 in
        (f.0, (f.1, objects, c.1, r.1))
    unbroken-holds p (as_signed x) h = unbroken-holds (by_itself s p (has_width s x) x) x h
    unbroken-holds p (as_unsigned x) h = unbroken-holds (by_itself s p (has_width s x) x) x h
    unbroken-holds p (unary op x) h = unbroken-holds p x h
    unbroken-holds p (reduction op x) h = (refl, (unbroken-holds (by_itself s p (has_width s x) x) x h).1)
    unbroken-holds p (binary op x y) h =
        let c : Broken = constant_if (divides op && is_bad_divisor s p y (is_unbroken (broken s p y))) in
        let q = unbroken-also (broken s p x) (also c (broken s p y)) h in
        let r = unbroken-also c (broken s p y) q.1 in
        let i = unbroken-holds p x q.0 in
        let j = unbroken-holds p y r.1 in
        (and-both (has_width s x) (has_width s y) i.0 j.0, (i.1, j.1))
    unbroken-holds p (shift op x n) h =
        let q = unbroken-also (broken s p x) (broken s (by_itself s p (has_width s n) n) n) h in
        let i = unbroken-holds p x q.0 in
        (i.0, (i.1, (unbroken-holds (by_itself s p (has_width s n) n) n q.1).1))
    unbroken-holds p (power x n) h =
        let b : Broken = broken s (by_itself s p (has_width s n) n) n in
        let c : Broken = constant_if (is_bad_exponent p (number_if b s n)) in
        let q = unbroken-also (broken s p x) (also c b) h in
        let r = unbroken-also c b q.1 in
        let i = unbroken-holds p x q.0 in
        (i.0, (i.1, (unbroken-holds (by_itself s p (has_width s n) n) n r.1).1))
    unbroken-holds p (comparison op x y) h =
        let w : Option ℕ = wider (some_if (has_width s x) (width_of s x)) (some_if (has_width s y) (width_of s y)) in
        let c : Position = in_context p w (sign_of s x && sign_of s y) in
        let q = unbroken-also (broken s c x) (broken s c y) h in
        (refl, ((unbroken-holds c x q.0).1, (unbroken-holds c y q.1).1))
    unbroken-holds p (logical op x y) h =
        let q = unbroken-also (broken s (by_itself s p (has_width s x) x) x) (broken s (by_itself s p (has_width s y) y) y) h in
        (refl, ((unbroken-holds (by_itself s p (has_width s x) x) x q.0).1, (unbroken-holds (by_itself s p (has_width s y) y) y q.1).1))
    unbroken-holds p (conditional c x y) h =
        let q = unbroken-also (also (broken s (by_itself s p (has_width s c) c) c) (broken s p x)) (broken s p y) h in
        let r = unbroken-also (broken s (by_itself s p (has_width s c) c) c) (broken s p x) q.0 in
        let i = unbroken-holds p x r.1 in
        let j = unbroken-holds p y q.1 in
        (and-both (has_width s x) (has_width s y) i.0 j.0, ((unbroken-holds (by_itself s p (has_width s c) c) c r.0).1, i.1, j.1))

    parts-hold : (p : Position) (es : Expressions) → is_unbroken (broken_parts s p es) ≡ true → (have_widths s es ≡ true) × AreNarrow s es
    parts-hold p no_expressions h = (refl, tt)
    parts-hold p (expression e es) h =
        let b : Broken = broken s (by_itself s p (has_width s e) e) e in
        let q = unbroken-also (also (constant_if (is_unsized e)) b) (broken_parts s p es) h in
        let r = unbroken-also (constant_if (is_unsized e)) b q.0 in
        let i = unbroken-holds (by_itself s p (has_width s e) e) e r.1 in
        let j = parts-hold p es q.1 in
        (and-both (has_width s e) (have_widths s es) i.0 j.0, (i.1, j.1))

    pub selects-hold : (p : Position) (o : Object) (x : Selects) → IsWidth (object_width o) → is_unbroken (broken_selects s p o x) ≡ true →
        (selects_have_width s o x ≡ true) × (IsWidth (selects_width s o x) × AreSelectsNarrow s x)
    selects-hold p o whole w h = (refl, (w, tt))
    selects-hold p o (one x) w h =
        let q = unbroken-also (broken_select s p x) (cond (is_memory o) nothing (broken_bits s o x)) h in
        let r = one-holds p o x w (is_memory o) refl q.0 q.1 in
        (r.0, (r.1, select-holds p x q.0))
    selects-hold p o (two x y) w h =
        let q = unbroken-also (broken_select s p x) (also (broken_select s p y) (broken_bits s o y)) h in
        let r = unbroken-also (broken_select s p y) (broken_bits s o y) q.1 in
        let f = bits-hold p o y r.0 r.1 in
        (f.0, (f.1, (select-holds p x q.0, select-holds p y r.0)))

    select-holds : (p : Position) (x : Select) → is_unbroken (broken_select s p x) ≡ true → IsSelectNarrow s x
    select-holds p (index i) h = (unbroken-holds (by_itself s p (has_width s i) i) i h).1
    select-holds p (part a b) h =
        let q = unbroken-also (broken s (as_constant s (has_width s a) a) a) (broken s (as_constant s (has_width s b) b) b) h in
        (objects, (unbroken-holds (as_constant s (has_width s a) a) a q.0).1, (unbroken-holds (as_constant s (has_width s b) b) b q.1).1)
    select-holds p (part_up b n) h =
        let c : Broken = broken s (as_constant s (has_width s n) n) n in
        let d : Broken = constant_if (is_below (pos 1) (number_if c s n)) in
        let q = unbroken-also (broken s (by_itself s p (has_width s b) b) b) (also d c) h in
        let r = unbroken-also d c q.1 in
        (objects, (unbroken-holds (by_itself s p (has_width s b) b) b q.0).1, (unbroken-holds (as_constant s (has_width s n) n) n r.1).1)
    select-holds p (part_down b n) h =
        let c : Broken = broken s (as_constant s (has_width s n) n) n in
        let d : Broken = constant_if (is_below (pos 1) (number_if c s n)) in
        let q = unbroken-also (broken s (by_itself s p (has_width s b) b) b) (also d c) h in
        let r = unbroken-also d c q.1 in
        (objects, (unbroken-holds (by_itself s p (has_width s b) b) b q.0).1, (unbroken-holds (as_constant s (has_width s n) n) n r.1).1)
