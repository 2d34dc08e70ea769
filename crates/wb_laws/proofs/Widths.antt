-- The value of a Verilog expression fits its context.
use Rattle.std.proofs.Common.{◌≡◌, ℕ, zero, suc, ◌+◌, ◌*◌, ◌^◌, ◌<◌, ◌≤◌, Bool, true, false, cond, max, refl, sym, subst, ℤ, pos, negsuc, arith}
use Rattle.std.specs.Prelude.{IsTrue, slice_index, Option, Some, None, option_and_then}
use Rattle.std.specs.Int.Bits.{and_lt}
use Rattle.std.proofs.Math.Nat.{mod-lt}
use Rattle.std.proofs.Math.Pow.{pow_pos, pow_mono}
use Rattle.std.proofs.lemmas.Nat.{or_lt, xor_lt, mul-add-lt, pow-add}
use Rattle.wb_values.specs.Value.{Value, as_words, Valuation}
use Rattle.wb_values.specs.Number.{word_xor}
use Rattle.verilog_trees.specs.Syntax.{UnaryOperator, plus, minus, complement, BinaryOperator, add, subtract, multiply, divide, modulo, bitwise_and, bitwise_or, bitwise_xor, bitwise_xnor, ShiftOperator, left, right, arithmetic_right, Expression, number, name, concatenation, replication, as_signed, as_unsigned, unary, reduction, binary, shift, power, comparison, logical, conditional, Expressions, no_expressions, expression, Select, index, part, part_up, part_down, Selects, whole, one, two}
use Rattle.verilog_meaning.specs.Expression.{Object, Scope, object_width, is_memory, no_values, word_number, word_or_zero, indexed_word, bits_from, bits_taken, widened, bit, bits_of_integer, side_by_side, unary_value, binary_value, shift_value, sign_of, selects_width, selected, select_index, select_bits, whole_value, width_of, widths_of, value_of, joined_value}
use Rattle.wb_laws.specs.Widths.{ReadFits, LeavesFit, AllLeavesFit, ValueFitsItsWidth, ValueFitsItsContext}
use Rattle.wb_laws.proofs.Numbers.{not_below, neg_below, add_below, sub_below, mul_below, shl_below, lshr_below, ashr_below, sext_below}

raised : (from to x : ℕ) → x < 2 ^ from → from ≤ to → x < 2 ^ to
raised from to x h l = let p : 2 ^ from ≤ 2 ^ to = pow_mono l in omega (arith, p, h)

widened_fits : (signed : Bool) (from to x : ℕ) → x < 2 ^ from → from ≤ to → widened signed from to x < 2 ^ to
widened_fits true from to x h l = sext_below to from x l h
widened_fits false from to x h l = raised from to x h l

bit_fits : (b : Bool) (w : ℕ) → 1 ≤ w → bit b < 2 ^ w
bit_fits true w h = let p : 2 ^ 1 ≤ 2 ^ w = pow_mono h in omega (arith, p)
bit_fits false w h = pow_pos w

bits_fit : (low : ℤ) (n x : ℕ) → bits_from low n x < 2 ^ n
bits_fit (pos k) n x = mod-lt _ (pow_pos n)
bits_fit (negsuc k) n x = mod-lt _ (pow_pos n)

integer_fits : (w : ℕ) (i : ℤ) → bits_of_integer w i < 2 ^ w
integer_fits w (pos n) = mod-lt n (pow_pos w)
integer_fits w (negsuc n) = not_below w _

repeated_fits : (n w x : ℕ) → x < 2 ^ w → side_by_side n w x < 2 ^ (n * w)
repeated_fits zero w x h = pow_pos (zero * w)
repeated_fits (suc n) w x h =
    let rest : side_by_side n w x < 2 ^ (n * w) = repeated_fits n w x h in
    let more : x * 2 ^ (n * w) + side_by_side n w x < 2 ^ (n * w) * 2 ^ w = mul-add-lt x (2 ^ (n * w)) (side_by_side n w x) (2 ^ w) h rest in
    let split : 2 ^ (n * w + w) ≡ 2 ^ (n * w) * 2 ^ w = pow-add 2 (n * w) w in
    let width : n * w + w ≡ suc n * w = omega arith in
    subst (λ k. x * 2 ^ (n * w) + side_by_side n w x < 2 ^ k) width (subst (λ k. x * 2 ^ (n * w) + side_by_side n w x < k) (sym split) more)

unary_fits : (op : UnaryOperator) (w x : ℕ) → x < 2 ^ w → unary_value op w x < 2 ^ w
unary_fits plus w x h = h
unary_fits minus w x h = neg_below w x
unary_fits complement w x h = not_below w x

binary_fits : (op : BinaryOperator) (w : ℕ) (signed : Bool) (x y : ℕ) → x < 2 ^ w → y < 2 ^ w → binary_value op w signed x y < 2 ^ w
binary_fits add w signed x y h k = add_below w x y h
binary_fits subtract w signed x y h k = sub_below w x y h
binary_fits multiply w signed x y h k = mul_below w x y h
binary_fits divide w signed x y h k = integer_fits w _
binary_fits modulo w signed x y h k = integer_fits w _
binary_fits bitwise_and w signed x y h k = and_lt w x y h k
binary_fits bitwise_or w signed x y h k = or_lt w x y h k
binary_fits bitwise_xor w signed x y h k = xor_lt w x y h k
binary_fits bitwise_xnor w signed x y h k = not_below w (word_xor x y)

shift_fits : (op : ShiftOperator) (w : ℕ) (signed : Bool) (x n : ℕ) → x < 2 ^ w → shift_value op w signed x n < 2 ^ w
shift_fits left w signed x n h = shl_below w x n h
shift_fits right w signed x n h = lshr_below w x n h
shift_fits arithmetic_right w true x n h = ashr_below w x n h
shift_fits arithmetic_right w false x n h = lshr_below w x n h

either_fits : (b : Bool) (x y w : ℕ) → x < 2 ^ w → y < 2 ^ w → cond b x y < 2 ^ w
either_fits true x y w h k = h
either_fits false x y w h k = k

-- names

word_fits : (k : Option ℕ) (x : Value) (w : ℕ) → ((i : ℕ) → slice_index (as_words x) i < 2 ^ w) → word_or_zero k x < 2 ^ w
word_fits None x w h = pow_pos w
word_fits (Some k) x w h = h k

-- how many bits a select takes does not depend on the valuation
same_count : (s : Scope) (v : Valuation) (o : Object) (i : Select) → (select_bits s v o i).count ≡ (select_bits s no_values o i).count
same_count s v o (index i) = refl
same_count s v o (part h l) = refl
same_count s v o (part_up b n) = refl
same_count s v o (part_down b n) = refl

select_fits : (s : Scope) (v : Valuation) (o : Object) (i : Select) (x : ℕ) → bits_taken x (select_bits s v o i) < 2 ^ (select_bits s no_values o i).count
select_fits s v o i x =
    subst (λ n. bits_taken x (select_bits s v o i) < 2 ^ n) (same_count s v o i) (bits_fit (select_bits s v o i).low (select_bits s v o i).count x)

word_or_bits : (memory : Bool) (word bits w count : ℕ) → (IsTrue memory → word < 2 ^ w) → bits < 2 ^ count → cond memory word bits < 2 ^ cond memory w count
word_or_bits true word bits w count h k = h refl
word_or_bits false word bits w count h k = k

selected_fits : (s : Scope) (v : Valuation) (o : Object) (x : Value) (i : Selects) → ReadFits o x i → selected s v o x i < 2 ^ selects_width s o i
selected_fits s v o x whole h = h
selected_fits s v o x (one i) h =
    word_or_bits (is_memory o) (indexed_word o (select_index s v i) x) (bits_taken (whole_value o x) (select_bits s v o i)) (object_width o)
    (select_bits s no_values o i).count
    (λ m. word_fits (option_and_then (λ a. word_number a (select_index s v i)) o.addresses) x (object_width o) (h m))
    (select_fits s v o i (whole_value o x))
selected_fits s v o x (two i j) h = select_fits s v o j (indexed_word o (select_index s v i) x)

-- a part at the high end of others
beside : (x w rest n : ℕ) → x < 2 ^ w → rest < 2 ^ n → x * 2 ^ n + rest < 2 ^ (w + n)
beside x w rest n h k =
    let more : x * 2 ^ n + rest < 2 ^ n * 2 ^ w = mul-add-lt x (2 ^ n) rest (2 ^ w) h k in
    let split : 2 ^ (w + n) ≡ 2 ^ w * 2 ^ n = pow-add 2 w n in
    omega (arith, more, split)

at_most : (x : ℕ) → x ≤ x
at_most x = omega arith

first_within : (x y w : ℕ) → max x y ≤ w → x ≤ w
first_within x y w h = omega (arith, h)

second_within : (x y w : ℕ) → max x y ≤ w → y ≤ w
second_within x y w h = omega (arith, h)

mutual
  pub fits : (s : Scope) (v : Valuation) (e : Expression) (w : ℕ) (signed : Bool) → LeavesFit s v e → width_of s e ≤ w → value_of s v e w signed < 2 ^ w
  fits s v (number k) w signed f l = widened_fits signed k.width w k.value f l
  fits s v (name n x) w signed f l =
      widened_fits signed (selects_width s (s n) x) w (selected s v (s n) (v n) x) (selected_fits s v (s n) (v n) x f) l
  fits s v (concatenation es) w signed f l = widened_fits signed (widths_of s es) w (joined_value s v es) (joined_fits s v es f) l
  fits s v (replication k es) w signed f l = widened_fits signed _ w _ (repeated_fits _ (widths_of s es) (joined_value s v es) (joined_fits s v es f)) l
  fits s v (as_signed x) w signed f l =
      widened_fits signed (width_of s x) w (value_of s v x (width_of s x) (sign_of s x)) (fits s v x (width_of s x) (sign_of s x) f (at_most (width_of s x))) l
  fits s v (as_unsigned x) w signed f l =
      widened_fits signed (width_of s x) w (value_of s v x (width_of s x) (sign_of s x)) (fits s v x (width_of s x) (sign_of s x) f (at_most (width_of s x))) l
  fits s v (unary op x) w signed f l = unary_fits op w (value_of s v x w signed) (fits s v x w signed f l)
  fits s v (reduction op x) w signed f l = bit_fits _ w l
  fits s v (binary op x y) w signed f l =
      binary_fits op w signed (value_of s v x w signed) (value_of s v y w signed)
      (fits s v x w signed f.0 (first_within (width_of s x) (width_of s y) w l)) (fits s v y w signed f.1 (second_within (width_of s x) (width_of s y) w l))
  fits s v (shift op x n) w signed f l =
      shift_fits op w signed (value_of s v x w signed) (value_of s v n (width_of s n) (sign_of s n)) (fits s v x w signed f l)
  fits s v (power x n) w signed f l = mod-lt _ (pow_pos w)
  fits s v (comparison op x y) w signed f l = bit_fits _ w l
  fits s v (logical op x y) w signed f l = bit_fits _ w l
  fits s v (conditional c x y) w signed f l =
      either_fits _ (value_of s v x w signed) (value_of s v y w signed) w
      (fits s v x w signed f.0 (first_within (width_of s x) (width_of s y) w l)) (fits s v y w signed f.1 (second_within (width_of s x) (width_of s y) w l))

  joined_fits : (s : Scope) (v : Valuation) (es : Expressions) → AllLeavesFit s v es → joined_value s v es < 2 ^ widths_of s es
  joined_fits s v no_expressions f = pow_pos 0
  joined_fits s v (expression e es) f =
      beside (value_of s v e (width_of s e) (sign_of s e)) (width_of s e) (joined_value s v es) (widths_of s es)
      (fits s v e (width_of s e) (sign_of s e) f.0 (at_most (width_of s e))) (joined_fits s v es f.1)

pub value_fits : ValueFitsItsWidth
value_fits s v e f = fits s v e (width_of s e) (sign_of s e) f (at_most (width_of s e))

pub context_fits : ValueFitsItsContext
context_fits s v e w signed f l = fits s v e w signed f l
