-- What is constant has the same value under all valuations.
use Rattle.std.proofs.Common.{◌≡◌, ℕ, ◌*◌, ◌+◌, ◌^◌, Bool, true, false, cond, ◌&&◌, refl, ap, ap₂, ◌∙◌, Option, Some, None, max, ℤ, IsTrue, is_some, unwrap_or, option_and_then}
use Rattle.std.proofs.lemmas.Bool.{and_parts}
use Rattle.wb_values.specs.Value.{Name, Value, Valuation}
use Rattle.verilog_trees.specs.Syntax.{Expression, number, name, concatenation, replication, as_signed, as_unsigned, unary, reduction, binary, shift, power, comparison, logical, conditional, Expressions, no_expressions, expression, Select, index, part, part_up, part_down, Selects, whole, one, two}
use Rattle.verilog_meaning.specs.Expression.{Object, Scope, is_memory, word_number, word_or_zero, indexed_word, whole_value, widened, bit, bits_taken, bits_upward, bits_downward, place_of_bit, integer_from, natural_of, side_by_side, unary_value, reduction_value, binary_value, shift_value, power_value, comparison_value, logical_value, is_nonzero, no_values, sign_of, width_of, widths_of, selects_width, value_of, joined_value, selected, select_index, select_bits}
use Rattle.verilog_meaning.specs.Register.{is_constant, are_constant, select_is_constant, selects_are_constant}
use Rattle.verilog_settled.specs.Locality.{HasNoConstantMemory}

-- a name that stands for a constant reads nothing of the valuation
pub constant_whole : (c : Option ℕ) (x y : ℕ) → IsTrue (is_some c) → unwrap_or c x ≡ unwrap_or c y
constant_whole (Some c) x y h = refl
constant_whole None x y h = absurd (let e : false ≡ true = h in cc)

pub constant_word : (a : Option (ℕ × ℕ)) (i j : ℤ) (x y : Value) → is_some a ≡ false
    → word_or_zero (option_and_then (λ r. word_number r i) a) x ≡ word_or_zero (option_and_then (λ r. word_number r j) a) y
constant_word None i j x y h = refl
constant_word (Some r) i j x y h = absurd (let e : true ≡ false = h in cc)

mutual
  pub same_value : (s : Scope) (v w : Valuation) → HasNoConstantMemory s → (e : Expression) (width : ℕ) (signed : Bool) → IsTrue (is_constant s e)
      → value_of s v e width signed ≡ value_of s w e width signed
  same_value s v w p (number k) width signed h = refl
  same_value s v w p (name n x) width signed h =
      let both : IsTrue (is_some (s n).constant) × IsTrue (selects_are_constant s x) = and_parts (is_some (s n).constant) (selects_are_constant s x) h in
      ap (widened signed (selects_width s (s n) x) width) (same_selected s v w p n x both.0 both.1)
  same_value s v w p (concatenation es) width signed h = ap (widened signed (widths_of s es) width) (same_joined s v w p es h)
  same_value s v w p (replication k es) width signed h =
      let count : ℕ = natural_of (integer_from (sign_of s k) (width_of s k) (value_of s no_values k (width_of s k) (sign_of s k))) in
      ap (λ z. widened signed (count * widths_of s es) width (side_by_side count (widths_of s es) z)) (same_joined s v w p es h)
  same_value s v w p (as_signed x) width signed h = ap (widened signed (width_of s x) width) (same_value s v w p x (width_of s x) (sign_of s x) h)
  same_value s v w p (as_unsigned x) width signed h = ap (widened signed (width_of s x) width) (same_value s v w p x (width_of s x) (sign_of s x) h)
  same_value s v w p (unary op x) width signed h = ap (unary_value op width) (same_value s v w p x width signed h)
  same_value s v w p (reduction op x) width signed h =
      ap (λ z. bit (reduction_value op (width_of s x) z)) (same_value s v w p x (width_of s x) (sign_of s x) h)
  same_value s v w p (binary op x y) width signed h =
      ap₂ (λ a b. binary_value op width signed a b) (same_value s v w p x width signed (and_parts (is_constant s x) (is_constant s y) h).0)
      (same_value s v w p y width signed (and_parts (is_constant s x) (is_constant s y) h).1)
  same_value s v w p (shift op x n) width signed h =
      ap₂ (λ a b. shift_value op width signed a b) (same_value s v w p x width signed (and_parts (is_constant s x) (is_constant s n) h).0)
      (same_value s v w p n (width_of s n) (sign_of s n) (and_parts (is_constant s x) (is_constant s n) h).1)
  same_value s v w p (power x n) width signed h =
      ap₂ (λ a b. power_value width a (integer_from (sign_of s n) (width_of s n) b))
      (same_value s v w p x width signed (and_parts (is_constant s x) (is_constant s n) h).0)
      (same_value s v w p n (width_of s n) (sign_of s n) (and_parts (is_constant s x) (is_constant s n) h).1)
  same_value s v w p (comparison op x y) width signed h =
      let m : ℕ = max (width_of s x) (width_of s y) in
      let t : Bool = sign_of s x && sign_of s y in
      ap₂ (λ a b. bit (comparison_value op (integer_from t m a) (integer_from t m b)))
      (same_value s v w p x m t (and_parts (is_constant s x) (is_constant s y) h).0)
      (same_value s v w p y m t (and_parts (is_constant s x) (is_constant s y) h).1)
  same_value s v w p (logical op x y) width signed h =
      ap₂ (λ a b. bit (logical_value op (is_nonzero a) (is_nonzero b)))
      (same_value s v w p x (width_of s x) (sign_of s x) (and_parts (is_constant s x) (is_constant s y) h).0)
      (same_value s v w p y (width_of s y) (sign_of s y) (and_parts (is_constant s x) (is_constant s y) h).1)
  same_value s v w p (conditional c x y) width signed h =
      let first : IsTrue (is_constant s c) × IsTrue (is_constant s x && is_constant s y) = and_parts (is_constant s c) (is_constant s x && is_constant s y) h in
      let rest : IsTrue (is_constant s x) × IsTrue (is_constant s y) = and_parts (is_constant s x) (is_constant s y) first.1 in
      ap (λ t. cond (is_nonzero t) (value_of s v x width signed) (value_of s v y width signed)) (same_value s v w p c (width_of s c) (sign_of s c) first.0)
      ∙ ap₂ (λ a b. cond (is_nonzero (value_of s w c (width_of s c) (sign_of s c))) a b) (same_value s v w p x width signed rest.0)
      (same_value s v w p y width signed rest.1)

  same_joined : (s : Scope) (v w : Valuation) → HasNoConstantMemory s → (es : Expressions) → IsTrue (are_constant s es)
      → joined_value s v es ≡ joined_value s w es
  same_joined s v w p no_expressions h = refl
  same_joined s v w p (expression e es) h =
      ap₂ (λ a b. a * 2 ^ widths_of s es + b)
      (same_value s v w p e (width_of s e) (sign_of s e) (and_parts (is_constant s e) (are_constant s es) h).0)
      (same_joined s v w p es (and_parts (is_constant s e) (are_constant s es) h).1)

  pub same_selected : (s : Scope) (v w : Valuation) → HasNoConstantMemory s → (n : Name) (x : Selects) → IsTrue (is_some (s n).constant)
      → IsTrue (selects_are_constant s x) → selected s v (s n) (v n) x ≡ selected s w (s n) (w n) x
  same_selected s v w p n whole c h = constant_whole (s n).constant _ _ c
  same_selected s v w p n (one i) c h =
      rw (p n c) (ap₂ (λ z b. bits_taken z b) (constant_whole (s n).constant _ _ c) (same_bits s v w p (s n) i h))
  same_selected s v w p n (two i j) c h =
      ap₂ (λ z b. bits_taken z b)
      (constant_word (s n).addresses (select_index s v i) (select_index s w i) (v n) (w n) (p n c))
      (same_bits s v w p (s n) j (and_parts (select_is_constant s i) (select_is_constant s j) h).1)

  pub same_bits : (s : Scope) (v w : Valuation) → HasNoConstantMemory s → (o : Object) (x : Select) → IsTrue (select_is_constant s x)
      → select_bits s v o x ≡ select_bits s w o x
  same_bits s v w p o (index i) h =
      ap (λ z. record { low = place_of_bit o (integer_from (sign_of s i) (width_of s i) z); count = 1 })
      (same_value s v w p i (width_of s i) (sign_of s i) h)
  same_bits s v w p o (part a b) h = refl
  same_bits s v w p o (part_up b n) h =
      ap (λ z. bits_upward o (integer_from (sign_of s b) (width_of s b) z)
      (natural_of (integer_from (sign_of s n) (width_of s n) (value_of s no_values n (width_of s n) (sign_of s n)))))
      (same_value s v w p b (width_of s b) (sign_of s b) h)
  same_bits s v w p o (part_down b n) h =
      ap (λ z. bits_downward o (integer_from (sign_of s b) (width_of s b) z)
      (natural_of (integer_from (sign_of s n) (width_of s n) (value_of s no_values n (width_of s n) (sign_of s n)))))
      (same_value s v w p b (width_of s b) (sign_of s b) h)

pub same_index : (s : Scope) (v w : Valuation) → HasNoConstantMemory s → (x : Select) → IsTrue (select_is_constant s x)
    → select_index s v x ≡ select_index s w x
same_index s v w p (index i) h = ap (λ z. integer_from (sign_of s i) (width_of s i) z) (same_value s v w p i (width_of s i) (sign_of s i) h)
same_index s v w p (part a b) h = refl
same_index s v w p (part_up b n) h = refl
same_index s v w p (part_down b n) h = refl

-- what constant selects take of a value
pub fixed_selects : (s : Scope) (v : Valuation) → HasNoConstantMemory s → (o : Object) (z : Value) (x : Selects) → IsTrue (selects_are_constant s x)
    → selected s v o z x ≡ selected s no_values o z x
fixed_selects s v p o z whole h = refl
fixed_selects s v p o z (one i) h =
    ap₂ (λ a b. cond (is_memory o) (indexed_word o a z) (bits_taken (whole_value o z) b)) (same_index s v no_values p i h) (same_bits s v no_values p o i h)
fixed_selects s v p o z (two i j) h =
    ap₂ (λ a b. bits_taken (indexed_word o a z) b) (same_index s v no_values p i (and_parts (select_is_constant s i) (select_is_constant s j) h).0)
    (same_bits s v no_values p o j (and_parts (select_is_constant s i) (select_is_constant s j) h).1)
