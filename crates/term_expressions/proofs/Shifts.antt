-- Shifts, and operands that are read as signed.
use Rattle.std.proofs.Common.{◌≡◌, ℕ, ◌+◌, ◌-◌, ◌<◌, ◌≤◌, ◌^◌, ◌%◌, max, Bool, true, false, cond, arith, refl, ◌∙◌, ap}
use Rattle.std.proofs.Math.Nat.{mod-eq_of_lt}
use Rattle.wb_values.specs.Value.{Valuation}
use Rattle.wb_values.specs.Number.{top_bit, word_ashr, word_sext}
use Rattle.verilog_trees.specs.Syntax.{Expression, shift, ShiftOperator, left, right, as_signed}
use Rattle.verilog_meaning.specs.Expression.{Scope, width_of, sign_of, value_of, shift_value}
use Rattle.v_operators.proofs.Bounds.{shl_below, lshr_below, ashr_below, sext_below}
use Rattle.term_expressions.specs.Expressions.{IsWorth}
use Rattle.term_expressions.specs.Laws.{ShiftLeftIsShl, ShiftRightIsLshr, ArithmeticShiftIsAshr, SignedIsSext, StandingIsAssigned}

-- the value of an expression by itself
pub by_itself : (s : Scope) (v : Valuation) (e : Expression) (w x : ℕ) → IsWorth s v e w x → value_of s v e (width_of s e) (sign_of s e) ≡ x
by_itself s v e w x h = ap (λ a. value_of s v e a (sign_of s e)) h.width ∙ (ap (λ b. value_of s v e w b) h.unsigned ∙ h.value)

shifted : (op : ShiftOperator) (s : Scope) (v : Valuation) (e f : Expression) (w x n : ℕ) → IsWorth s v e w x → IsWorth s v f w n
    → shift_value op w false x n < 2 ^ w → IsWorth s v (shift op e f) w (shift_value op w false x n)
shifted op s v e f w x n h k fits = record {
  width = h.width;
  unsigned = h.unsigned;
  value =
      ap (λ a. shift_value op w false a (value_of s v f (width_of s f) (sign_of s f))) h.value
      ∙ ap (λ b. shift_value op w false x b) (by_itself s v f w n k);
  fits = fits;
}

pub shift_left_is_shl : ShiftLeftIsShl
shift_left_is_shl s v e f w x n h k = shifted left s v e f w x n h k (shl_below w x n h.fits k.fits)

pub shift_right_is_lshr : ShiftRightIsLshr
shift_right_is_lshr s v e f w x n h k = shifted right s v e f w x n h k (lshr_below w x n h.fits k.fits)

-- a word of w bits widened to w bits
pub sext_same : (w x : ℕ) → word_sext w w x ≡ x
sext_same w x = by_test (top_bit w x)
  where
    by_test : (b : Bool) → x + cond b (2 ^ w - 2 ^ w) 0 ≡ x
    by_test true = omega arith
    by_test false = omega arith

-- an operand read as signed, in a context of n bits
pub read_as_signed : (s : Scope) (v : Valuation) (e : Expression) (w n x : ℕ) → IsWorth s v e w x
    → value_of s v (as_signed e) n true ≡ word_sext n w x
read_as_signed s v e w n x h =
    ap (λ a. word_sext n a (value_of s v e (width_of s e) (sign_of s e))) h.width ∙ ap (λ a. word_sext n w a) (by_itself s v e w x h)

pub read_as_signed_here : (s : Scope) (v : Valuation) (e : Expression) (w x : ℕ) → IsWorth s v e w x → value_of s v (as_signed e) w true ≡ x
read_as_signed_here s v e w x h = read_as_signed s v e w w x h ∙ sext_same w x

pub arithmetic_shift_is_ashr : ArithmeticShiftIsAshr
arithmetic_shift_is_ashr s v e f w x n h k = record {
  width = h.width;
  unsigned = refl;
  value =
      ap (λ a. word_ashr a (value_of s v (as_signed e) a true) (value_of s v f (width_of s f) (sign_of s f))) h.width
      ∙ (ap (λ a. word_ashr w a (value_of s v f (width_of s f) (sign_of s f))) (read_as_signed_here s v e w x h)
      ∙ ap (λ a. word_ashr w x a) (by_itself s v f w n k));
  fits = ashr_below w x n h.fits k.fits;
}

pub signed_is_sext : SignedIsSext
signed_is_sext s v e w n x le h =
    ap (λ a. value_of s v (as_signed e) (max n a) true % 2 ^ n) h.width
    ∙ (ap (λ a. value_of s v (as_signed e) a true % 2 ^ n) (greater n w le)
    ∙ (ap (λ a. a % 2 ^ n) (read_as_signed s v e w n x h) ∙ mod-eq_of_lt (sext_below n w x le h.fits)))
  where
    greater : (a b : ℕ) → b ≤ a → max a b ≡ a
    greater a b l = omega (arith, l)

pub standing_is_assigned : StandingIsAssigned
standing_is_assigned s v e w x h =
    ap (λ a. value_of s v e (max w a) (sign_of s e) % 2 ^ w) h.width
    ∙ (ap (λ a. value_of s v e a (sign_of s e) % 2 ^ w) (same w)
    ∙ (ap (λ b. value_of s v e w b % 2 ^ w) h.unsigned ∙ (ap (λ a. a % 2 ^ w) h.value ∙ mod-eq_of_lt h.fits)))
  where
    same : (a : ℕ) → max a a ≡ a
    same a = omega arith
