-- In a solid expression the rules' reading finds no number that does not fit its width, and no parts without bits.
use Rattle.std.proofs.Common.{◌≡◌, ◌<◌, ◌≤◌, ◌*◌, ◌^◌, ◌==◌, ◌&&◌, ◌||◌, not, nat_le, nat_lt, ℕ, zero, suc, Bool, true, false, cond, Option, Some, None, ℤ, pos, negsuc, refl, sym, subst, arith}
use Rattle.std.specs.Prelude.{int_le}
use Rattle.std.proofs.lemmas.Bool.{and_parts, false≢true}
use Rattle.std.proofs.lemmas.Bool.Decides.{nat_tests}
use Rattle.std.proofs.lemmas.Option.{none-some}
use Rattle.wb_values.specs.Value.{Name}
use Rattle.wb_values.specs.Choice.{some_if}
use Rattle.verilog_trees.specs.Syntax as tree
use Rattle.verilog_trees.specs.Syntax.{Number, Expression, Expressions, no_expressions, expression, Select, Selects, whole, one, two}
use Rattle.verilog_meaning.specs.Expression.{Object, Scope, no_values, object_width, is_memory, natural_of, sign_of, width_of, widths_of, selects_width, select_bits, integer_of}
use Rattle.verilog_rules.specs.Expression.{Position, nothing, is_unbroken, by_total, copies, is_at_most_128, number_if, broken, broken_parts, broken_selects, broken_select, broken_bits, broken_constant, by_itself, as_constant, in_context, wider, has_width, have_widths, select_has_width, selects_have_width}
use Rattle.ready_maps.specs.Solid.{IsSolidNumber, IsSolid, AreSolid, AreSome, IsSolidSelect, AreSolidSelects}

same-some : {A : Type 0} (x y : A) → Some x ≡ Some y → x ≡ y
same-some x y e = cc

or-false : (a b : Bool) → a ≡ false → b ≡ false → (a || b) ≡ false
or-false true b h k = absurd (false≢true (sym h))
or-false false b h k = k

-- ---- widths

number-width : (k : Number) → IsSolidNumber k → 1 ≤ k.width
number-width k h = h.some_bits

at-least : (i : ℤ) → int_le (pos 1) i ≡ true → 1 ≤ natural_of i
at-least (pos zero) h = absurd (false≢true h)
at-least (pos (suc n)) h = omega arith
at-least (negsuc n) h = absurd (false≢true h)

mul-some : (a b : ℕ) → 1 ≤ a → 1 ≤ b → 1 ≤ a * b
mul-some zero b h k = absurd (omega (arith, h))
mul-some (suc a) zero h k = absurd (omega (arith, k))
mul-some (suc a) (suc b) h k = omega arith

record Copied (o : Option ℤ) (u : Option ℕ) : Type 0 where
  number : ℤ
  width : ℕ
  is_number : o ≡ Some number
  is_width : u ≡ Some width
  some : 1 ≤ natural_of number

copied : (o : Option ℤ) (u : Option ℕ) → is_at_most_128 (copies o u) ≡ true → Copied o u
copied None u h = absurd (false≢true h)
copied (Some i) None h = absurd (false≢true h)
copied (Some i) (Some w) h = by (int_le (pos 1) i) refl h
  where
    by : (b : Bool) → int_le (pos 1) i ≡ b → is_at_most_128 (some_if b (natural_of i * w)) ≡ true → Copied (Some i) (Some w)
    by true e h = record { number = i; width = w; is_number = refl; is_width = refl; some = at-least i e }
    by false e h = absurd (false≢true h)

of-choice : {A : Type 0} (b : Bool) (x y : A) → some_if b x ≡ Some y → (b ≡ true) × (x ≡ y)
of-choice true x y e = (refl, same-some x y e)
of-choice false x y e = absurd (none-some y e)

-- the count of copies, or of bits
counted : (s : Scope) (k : Expression) (u : Option ℕ) → is_at_most_128 (copies (number_if (broken_constant s k) s k) u) ≡ true
    → 1 ≤ natural_of (integer_of s no_values k)
counted s k u h =
    let c = copied (number_if (broken_constant s k) s k) u h in
    subst (λ i. 1 ≤ natural_of i) (sym (of-choice (is_unbroken (broken_constant s k)) (integer_of s no_values k) c.number c.is_number).1) c.some

select-bits : (s : Scope) (o : Object) (x : Select) → select_has_width s x ≡ true → 1 ≤ (select_bits s no_values o x).count
select-bits s o (tree.index i) h = omega arith
select-bits s o (tree.part x y) h = omega arith
select-bits s o (tree.part_up b n) h = counted s n (Some 1) h
select-bits s o (tree.part_down b n) h = counted s n (Some 1) h

whole-bits : (o : Object) → 1 ≤ object_width o
whole-bits o = omega arith

selects-bits : (s : Scope) (o : Object) (x : Selects) → selects_have_width s o x ≡ true → 1 ≤ selects_width s o x
selects-bits s o whole h = whole-bits o
selects-bits s o (one x) h = by (is_memory o) h
  where
    by : (b : Bool) → (b || select_has_width s x) ≡ true → 1 ≤ cond b (object_width o) (select_bits s no_values o x).count
    by true h = whole-bits o
    by false h = select-bits s o x h
selects-bits s o (two x y) h = select-bits s o y h

joined-widths : (b : Bool) (w : ℕ) → is_at_most_128 (some_if b w) ≡ true → b ≡ true
joined-widths true w h = refl
joined-widths false w h = absurd (false≢true h)

mutual
  -- what is solid and has a width has some bits
  bits : (s : Scope) (e : Expression) → IsSolid e → has_width s e ≡ true → 1 ≤ width_of s e
  bits s (tree.number k) h w = number-width k h
  bits s (tree.name n x) h w = selects-bits s (s n) x (and_parts _ (selects_have_width s (s n) x) w).1
  bits s (tree.concatenation es) h w = together s es h.0 h.1 (joined-widths (have_widths s es) (widths_of s es) w)
  bits s (tree.replication k es) h w =
      let c = copied (number_if (broken_constant s k) s k) (some_if (have_widths s es) (widths_of s es)) w in
      let known = of-choice (have_widths s es) (widths_of s es) c.width c.is_width in
      mul-some (natural_of (integer_of s no_values k)) (widths_of s es)
      (counted s k (some_if (have_widths s es) (widths_of s es)) w) (together s es h.1 h.2 known.0)
  bits s (tree.as_signed x) h w = bits s x h w
  bits s (tree.as_unsigned x) h w = bits s x h w
  bits s (tree.unary op x) h w = bits s x h w
  bits s (tree.reduction op x) h w = omega arith
  bits s (tree.binary op x y) h w = let a = bits s x h.0 (and_parts (has_width s x) (has_width s y) w).0 in omega (arith, a)
  bits s (tree.shift op x n) h w = bits s x h.0 w
  bits s (tree.power x n) h w = bits s x h.0 w
  bits s (tree.comparison op x y) h w = omega arith
  bits s (tree.logical op x y) h w = omega arith
  bits s (tree.conditional c x y) h w = let a = bits s x h.1 (and_parts (has_width s x) (has_width s y) w).0 in omega (arith, a)

  -- and so have parts, if there are any
  together : (s : Scope) (es : Expressions) → AreSome es → AreSolid es → have_widths s es ≡ true → 1 ≤ widths_of s es
  together s no_expressions some h w = absurd some
  together s (expression e es) some h w = let a = bits s e h.0 (and_parts (has_width s e) (have_widths s es) w).0 in omega (arith, a)

-- ---- shape

fit : (a b c : Bool) → b ≡ true → c ≡ true → (a && not (b && c)) ≡ false
fit true true true h k = refl
fit false b c h k = refl
fit true false c h k = absurd (false≢true h)
fit true true false h k = absurd (false≢true k)

is-at-least : (w : ℕ) → 1 ≤ w → nat_le 1 w ≡ true
is-at-least w h = grind (arith, nat_tests)

is-below : (x n : ℕ) → x < n → nat_lt x n ≡ true
is-below x n h = grind (arith, nat_tests)

value-fits : (k : Number) → IsSolidNumber k → k.value < 2 ^ k.width
value-fits k h = h.value_fits

number-shapely : (k : Number) → IsSolidNumber k → (nat_le k.width 128 && not (nat_le 1 k.width && nat_lt k.value (2 ^ k.width))) ≡ false
number-shapely k h =
    fit (nat_le k.width 128) (nat_le 1 k.width) (nat_lt k.value (2 ^ k.width)) (is-at-least k.width (number-width k h)) (is-below k.value (2 ^ k.width) (value-fits k h))

is-zero : (w : ℕ) → 1 ≤ w → (w == 0) ≡ false
is-zero zero h = absurd (omega (arith, h))
is-zero (suc w) h = grind (arith, nat_tests)

total-shapely : (u : Option ℕ) → ((w : ℕ) → u ≡ Some w → 1 ≤ w) → (by_total u).misshapen ≡ false
total-shapely None h = refl
total-shapely (Some w) h = is-zero w (h w refl)

copies-some : (o : Option ℤ) (u : Option ℕ) (w : ℕ) → ((v : ℕ) → u ≡ Some v → 1 ≤ v) → copies o u ≡ Some w → 1 ≤ w
copies-some None u w h e = absurd (none-some w e)
copies-some (Some i) None w h e = absurd (none-some w e)
copies-some (Some i) (Some v) w h e = by (int_le (pos 1) i) refl e
  where
    by : (b : Bool) → int_le (pos 1) i ≡ b → some_if b (natural_of i * v) ≡ Some w → 1 ≤ w
    by true k e = subst (λ n. 1 ≤ n) (same-some (natural_of i * v) w e) (mul-some (natural_of i) v (at-least i k) (h v refl))
    by false k e = absurd (none-some w e)

parts-some : (s : Scope) (es : Expressions) (w : ℕ) → AreSome es → AreSolid es → some_if (have_widths s es) (widths_of s es) ≡ Some w → 1 ≤ w
parts-some s es w some h e =
    let c = of-choice (have_widths s es) (widths_of s es) w e in
    subst (λ n. 1 ≤ n) c.1 (together s es some h c.0)

-- the rules' reading finds neither in the expression, wherever it stands; in parts; in selects; in one select
IsShape : Scope → Expression → Type 0
IsShape s e = (p : Position) → (broken s p e).misshapen ≡ false

AreShape : Scope → Expressions → Type 0
AreShape s es = (p : Position) → (broken_parts s p es).misshapen ≡ false

AreSelects : Scope → Selects → Type 0
AreSelects s x = (p : Position) (o : Object) → (broken_selects s p o x).misshapen ≡ false

IsSelect : Scope → Select → Type 0
IsSelect s x = (p : Position) → (broken_select s p x).misshapen ≡ false

at-number : (s : Scope) (k : Number) → IsSolidNumber k → IsShape s (tree.number k)
unfolding IsShape
at-number s k h p = number-shapely k h

at-name : (s : Scope) (n : Name) (x : Selects) → AreSelects s x → IsShape s (tree.name n x)
unfolding IsShape AreSelects
at-name s n x h p = h p (s n)

at-concatenation : (s : Scope) (es : Expressions) → AreSome es → AreSolid es → AreShape s es → IsShape s (tree.concatenation es)
unfolding IsShape AreShape
at-concatenation s es some h k p =
    or-false (by_total (some_if (have_widths s es) (widths_of s es))).misshapen (broken_parts s p es).misshapen
    (total-shapely (some_if (have_widths s es) (widths_of s es)) (λ w. parts-some s es w some h)) (k p)

at-replication : (s : Scope) (c : Expression) (es : Expressions) → AreSome es → AreSolid es → IsShape s c → AreShape s es → IsShape s (tree.replication c es)
unfolding IsShape AreShape
at-replication s c es some h i k p =
    or-false (broken_constant s c).misshapen ((by_total (copies (number_if (broken_constant s c) s c) (some_if (have_widths s es) (widths_of s es)))).misshapen || (broken_parts s p es).misshapen)
    (i (as_constant s (has_width s c) c))
    (or-false (by_total (copies (number_if (broken_constant s c) s c) (some_if (have_widths s es) (widths_of s es)))).misshapen (broken_parts s p es).misshapen
    (total-shapely (copies (number_if (broken_constant s c) s c) (some_if (have_widths s es) (widths_of s es)))
    (λ w. copies-some (number_if (broken_constant s c) s c) (some_if (have_widths s es) (widths_of s es)) w (λ v. parts-some s es v some h)))
    (k p))

at-signed : (s : Scope) (x : Expression) → IsShape s x → IsShape s (tree.as_signed x)
unfolding IsShape
at-signed s x h p = h (by_itself s p (has_width s x) x)

at-unsigned : (s : Scope) (x : Expression) → IsShape s x → IsShape s (tree.as_unsigned x)
unfolding IsShape
at-unsigned s x h p = h (by_itself s p (has_width s x) x)

at-unary : (s : Scope) (op : tree.UnaryOperator) (x : Expression) → IsShape s x → IsShape s (tree.unary op x)
unfolding IsShape
at-unary s op x h p = h p

at-reduction : (s : Scope) (op : tree.ReductionOperator) (x : Expression) → IsShape s x → IsShape s (tree.reduction op x)
unfolding IsShape
at-reduction s op x h p = h (by_itself s p (has_width s x) x)

at-binary : (s : Scope) (op : tree.BinaryOperator) (x y : Expression) → IsShape s x → IsShape s y → IsShape s (tree.binary op x y)
unfolding IsShape
at-binary s op x y h k p = or-false (broken s p x).misshapen (broken s p y).misshapen (h p) (k p)

at-shift : (s : Scope) (op : tree.ShiftOperator) (x n : Expression) → IsShape s x → IsShape s n → IsShape s (tree.shift op x n)
unfolding IsShape
at-shift s op x n h k p =
    or-false (broken s p x).misshapen (broken s (by_itself s p (has_width s n) n) n).misshapen (h p) (k (by_itself s p (has_width s n) n))

at-power : (s : Scope) (x n : Expression) → IsShape s x → IsShape s n → IsShape s (tree.power x n)
unfolding IsShape
at-power s x n h k p =
    or-false (broken s p x).misshapen (broken s (by_itself s p (has_width s n) n) n).misshapen (h p) (k (by_itself s p (has_width s n) n))

at-comparison : (s : Scope) (op : tree.ComparisonOperator) (x y : Expression) → IsShape s x → IsShape s y → IsShape s (tree.comparison op x y)
unfolding IsShape
at-comparison s op x y h k p =
    let w = wider (some_if (has_width s x) (width_of s x)) (some_if (has_width s y) (width_of s y)) in
    let q = in_context p w (sign_of s x && sign_of s y) in
    or-false (broken s q x).misshapen (broken s q y).misshapen (h q) (k q)

at-logical : (s : Scope) (op : tree.LogicalOperator) (x y : Expression) → IsShape s x → IsShape s y → IsShape s (tree.logical op x y)
unfolding IsShape
at-logical s op x y h k p =
    or-false (broken s (by_itself s p (has_width s x) x) x).misshapen (broken s (by_itself s p (has_width s y) y) y).misshapen
    (h (by_itself s p (has_width s x) x)) (k (by_itself s p (has_width s y) y))

at-conditional : (s : Scope) (c x y : Expression) → IsShape s c → IsShape s x → IsShape s y → IsShape s (tree.conditional c x y)
unfolding IsShape
at-conditional s c x y i h k p =
    or-false ((broken s (by_itself s p (has_width s c) c) c).misshapen || (broken s p x).misshapen) (broken s p y).misshapen
    (or-false (broken s (by_itself s p (has_width s c) c) c).misshapen (broken s p x).misshapen (i (by_itself s p (has_width s c) c)) (h p)) (k p)

at-none : (s : Scope) → AreShape s no_expressions
unfolding AreShape
at-none s p = refl

at-part : (s : Scope) (e : Expression) (es : Expressions) → IsShape s e → AreShape s es → AreShape s (expression e es)
unfolding IsShape AreShape
at-part s e es h k p =
    or-false (broken s (by_itself s p (has_width s e) e) e).misshapen (broken_parts s p es).misshapen (h (by_itself s p (has_width s e) e)) (k p)

bits-shapely : (s : Scope) (o : Object) (x : Select) → (broken_bits s o x).misshapen ≡ false
bits-shapely s o (tree.index i) = refl
bits-shapely s o (tree.part x y) = refl
bits-shapely s o (tree.part_up b n) = refl
bits-shapely s o (tree.part_down b n) = refl

memory-bits : (b : Bool) (s : Scope) (o : Object) (x : Select) → (cond b nothing (broken_bits s o x)).misshapen ≡ false
memory-bits true s o x = refl
memory-bits false s o x = bits-shapely s o x

at-whole : (s : Scope) → AreSelects s whole
unfolding AreSelects
at-whole s p o = refl

at-one : (s : Scope) (x : Select) → IsSelect s x → AreSelects s (one x)
unfolding AreSelects IsSelect
at-one s x h p o = or-false (broken_select s p x).misshapen (cond (is_memory o) nothing (broken_bits s o x)).misshapen (h p) (memory-bits (is_memory o) s o x)

at-two : (s : Scope) (x y : Select) → IsSelect s x → IsSelect s y → AreSelects s (two x y)
unfolding AreSelects IsSelect
at-two s x y h k p o =
    or-false (broken_select s p x).misshapen ((broken_select s p y).misshapen || (broken_bits s o y).misshapen) (h p)
    (or-false (broken_select s p y).misshapen (broken_bits s o y).misshapen (k p) (bits-shapely s o y))

at-index : (s : Scope) (i : Expression) → IsShape s i → IsSelect s (tree.index i)
unfolding IsShape IsSelect
at-index s i h p = h (by_itself s p (has_width s i) i)

at-range : (s : Scope) (x y : Expression) → IsShape s x → IsShape s y → IsSelect s (tree.part x y)
unfolding IsShape IsSelect
at-range s x y h k p = or-false (broken_constant s x).misshapen (broken_constant s y).misshapen (h (as_constant s (has_width s x) x)) (k (as_constant s (has_width s y) y))

at-up : (s : Scope) (b n : Expression) → IsShape s b → IsShape s n → IsSelect s (tree.part_up b n)
unfolding IsShape IsSelect
at-up s b n h k p =
    or-false (broken s (by_itself s p (has_width s b) b) b).misshapen (broken_constant s n).misshapen (h (by_itself s p (has_width s b) b)) (k (as_constant s (has_width s n) n))

at-down : (s : Scope) (b n : Expression) → IsShape s b → IsShape s n → IsSelect s (tree.part_down b n)
unfolding IsShape IsSelect
at-down s b n h k p =
    or-false (broken s (by_itself s p (has_width s b) b) b).misshapen (broken_constant s n).misshapen (h (by_itself s p (has_width s b) b)) (k (as_constant s (has_width s n) n))

mutual
  shape : (s : Scope) (e : Expression) → IsSolid e → IsShape s e
  shape s (tree.number k) h = at-number s k h
  shape s (tree.name n x) h = at-name s n x (selects-shape s x h)
  shape s (tree.concatenation es) h = at-concatenation s es h.0 h.1 (parts-shape s es h.1)
  shape s (tree.replication k es) h = at-replication s k es h.1 h.2 (shape s k h.0) (parts-shape s es h.2)
  shape s (tree.as_signed x) h = at-signed s x (shape s x h)
  shape s (tree.as_unsigned x) h = at-unsigned s x (shape s x h)
  shape s (tree.unary op x) h = at-unary s op x (shape s x h)
  shape s (tree.reduction op x) h = at-reduction s op x (shape s x h)
  shape s (tree.binary op x y) h = at-binary s op x y (shape s x h.0) (shape s y h.1)
  shape s (tree.shift op x n) h = at-shift s op x n (shape s x h.0) (shape s n h.1)
  shape s (tree.power x n) h = at-power s x n (shape s x h.0) (shape s n h.1)
  shape s (tree.comparison op x y) h = at-comparison s op x y (shape s x h.0) (shape s y h.1)
  shape s (tree.logical op x y) h = at-logical s op x y (shape s x h.0) (shape s y h.1)
  shape s (tree.conditional c x y) h = at-conditional s c x y (shape s c h.0) (shape s x h.1) (shape s y h.2)

  parts-shape : (s : Scope) (es : Expressions) → AreSolid es → AreShape s es
  parts-shape s no_expressions h = at-none s
  parts-shape s (expression e es) h = at-part s e es (shape s e h.0) (parts-shape s es h.1)

  selects-shape : (s : Scope) (x : Selects) → AreSolidSelects x → AreSelects s x
  selects-shape s whole h = at-whole s
  selects-shape s (one x) h = at-one s x (select-shape s x h)
  selects-shape s (two x y) h = at-two s x y (select-shape s x h.0) (select-shape s y h.1)

  select-shape : (s : Scope) (x : Select) → IsSolidSelect x → IsSelect s x
  select-shape s (tree.index i) h = at-index s i (shape s i h)
  select-shape s (tree.part x y) h = at-range s x y (shape s x h.0) (shape s y h.1)
  select-shape s (tree.part_up b n) h = at-up s b n (shape s b h.0) (shape s n h.1)
  select-shape s (tree.part_down b n) h = at-down s b n (shape s b h.0) (shape s n h.1)

pub shapely : (s : Scope) (p : Position) (e : Expression) → IsSolid e → (broken s p e).misshapen ≡ false
unfolding IsShape
shapely s p e h = shape s e h p
