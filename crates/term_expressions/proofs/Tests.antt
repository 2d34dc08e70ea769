-- Comparisons and choices.
use Rattle.std.proofs.Common.{◌≡◌, ℕ, ◌<◌, ◌^◌, max, Bool, true, false, cond, ◌&&◌, nat_le, arith, refl, ◌∙◌, ap, subst}
use Rattle.std.specs.Prelude.{◌==◌, pos}
use Rattle.std.proofs.lemmas.Bool.Decides.{nat_tests}
use Rattle.wb_values.specs.Value.{Valuation}
use Rattle.wb_values.specs.Number.{signed_value}
use Rattle.verilog_trees.specs.Syntax.{Expression, comparison, ComparisonOperator, less, less_or_equal, equal, as_signed}
use Rattle.verilog_meaning.specs.Expression.{Scope, width_of, sign_of, value_of, integer_from, comparison_value, bit, is_nonzero}
use Rattle.v_operators.proofs.Bounds.{bit_below}
use Rattle.term_expressions.specs.Expressions.{IsWorth, signed_comparison}
use Rattle.term_expressions.specs.Laws.{EqualIsEq, LessIsUlt, LessOrEqualIsUle, SignedLessIsSlt, SignedLessOrEqualIsSle, ConditionalIsIte}
use Rattle.term_expressions.proofs.Shifts.{by_itself, read_as_signed_here}

max_same : (w : ℕ) → max w w ≡ w
max_same w = omega arith

-- a comparison in a context of m bits and this sign
abbrev compared : ComparisonOperator → Scope → Valuation → Expression → Expression → ℕ → Bool → ℕ
compared op s v e f m t = bit (comparison_value op (integer_from t m (value_of s v e m t)) (integer_from t m (value_of s v f m t)))

unsigned_test : (op : ComparisonOperator) (s : Scope) (v : Valuation) (e f : Expression) (w x y : ℕ) → IsWorth s v e w x → IsWorth s v f w y
    → IsWorth s v (comparison op e f) 1 (bit (comparison_value op (pos x) (pos y)))
unsigned_test op s v e f w x y h k = record {
  width = refl;
  unsigned = refl;
  value =
      ap (λ a. compared op s v e f (max a (width_of s f)) (sign_of s e && sign_of s f)) h.width
      ∙ (ap (λ a. compared op s v e f (max w a) (sign_of s e && sign_of s f)) k.width
      ∙ (ap (λ a. compared op s v e f a (sign_of s e && sign_of s f)) (max_same w)
      ∙ (ap (λ t. compared op s v e f w (t && sign_of s f)) h.unsigned
      ∙ (ap (λ a. bit (comparison_value op (pos a) (pos (value_of s v f w false)))) h.value
      ∙ ap (λ a. bit (comparison_value op (pos x) (pos a))) k.value))));
  fits = bit_below (comparison_value op (pos x) (pos y)) 1 (omega arith);
}

signed_test : (op : ComparisonOperator) (s : Scope) (v : Valuation) (e f : Expression) (w x y : ℕ) → IsWorth s v e w x → IsWorth s v f w y
    → IsWorth s v (signed_comparison op e f) 1 (bit (comparison_value op (signed_value w x) (signed_value w y)))
signed_test op s v e f w x y h k = record {
  width = refl;
  unsigned = refl;
  value =
      ap (λ a. compared op s v (as_signed e) (as_signed f) (max a (width_of s f)) true) h.width
      ∙ (ap (λ a. compared op s v (as_signed e) (as_signed f) (max w a) true) k.width
      ∙ (ap (λ a. compared op s v (as_signed e) (as_signed f) a true) (max_same w)
      ∙ (ap (λ a. bit (comparison_value op (signed_value w a) (signed_value w (value_of s v (as_signed f) w true)))) (read_as_signed_here s v e w x h)
      ∙ ap (λ a. bit (comparison_value op (signed_value w x) (signed_value w a))) (read_as_signed_here s v f w y k))));
  fits = bit_below (comparison_value op (signed_value w x) (signed_value w y)) 1 (omega arith);
}

equal_tests : (x y : ℕ) → (nat_le x y && nat_le y x) ≡ (x == y)
equal_tests x y = grind (arith, nat_tests)

pub equal_is_eq : EqualIsEq
equal_is_eq s v e f w x y h k = subst (λ b. IsWorth s v (comparison equal e f) 1 (bit b)) (equal_tests x y) (unsigned_test equal s v e f w x y h k)

pub less_is_ult : LessIsUlt
less_is_ult s v e f w x y h k = unsigned_test less s v e f w x y h k

pub less_or_equal_is_ule : LessOrEqualIsUle
less_or_equal_is_ule s v e f w x y h k = unsigned_test less_or_equal s v e f w x y h k

pub signed_less_is_slt : SignedLessIsSlt
signed_less_is_slt s v e f w x y h k = signed_test less s v e f w x y h k

pub signed_less_or_equal_is_sle : SignedLessOrEqualIsSle
signed_less_or_equal_is_sle s v e f w x y h k = signed_test less_or_equal s v e f w x y h k

-- ---- choices

truth_of_bit : (b : Bool) → is_nonzero (bit b) ≡ b
truth_of_bit true = refl
truth_of_bit false = refl

choice_below : (b : Bool) (w x y : ℕ) → x < 2 ^ w → y < 2 ^ w → cond b x y < 2 ^ w
choice_below true w x y h k = h
choice_below false w x y h k = k

pub conditional_is_ite : ConditionalIsIte
conditional_is_ite s v c e f b w x y g h k = record {
  width = ap (λ a. max a (width_of s f)) h.width ∙ (ap (λ a. max w a) k.width ∙ max_same w);
  unsigned = ap (λ t. t && sign_of s f) h.unsigned;
  value =
      ap (λ a. cond (is_nonzero a) (value_of s v e w false) (value_of s v f w false)) (by_itself s v c 1 (bit b) g)
      ∙ (ap (λ a. cond a (value_of s v e w false) (value_of s v f w false)) (truth_of_bit b)
      ∙ (ap (λ a. cond b a (value_of s v f w false)) h.value ∙ ap (λ a. cond b x a) k.value));
  fits = choice_below b w x y h.fits k.fits;
}
