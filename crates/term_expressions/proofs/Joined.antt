-- Constants, concatenations, and words filled with zeros.
use Rattle.std.proofs.Common.{◌≡◌, ℕ, ◌+◌, ◌-◌, ◌*◌, ◌<◌, ◌^◌, arith, refl, ◌∙◌, ap, subst}
use Rattle.std.proofs.Math.Pow.{pow_pos}
use Rattle.wb_values.specs.Number.{word_concat}
use Rattle.verilog_meaning.specs.Expression.{width_of, sign_of, value_of}
use Rattle.v_operators.proofs.Bounds.{concat_below}
use Rattle.term_expressions.specs.Expressions.{IsWorth, sized, filled}
use Rattle.term_expressions.specs.Laws.{SizedIsConst, PartsAreConcat, FilledIsZext}
use Rattle.term_expressions.proofs.Shifts.{by_itself}

pub sized_is_const : SizedIsConst
sized_is_const s v w x h = record { width = refl; unsigned = refl; value = refl; fits = h }

no_more : (w : ℕ) → w + 0 ≡ w
no_more w = omega arith

joined : (x y p : ℕ) → x * p + (y * 2 ^ 0 + 0) ≡ x * p + y
joined x y p = omega arith

pub parts_are_concat : PartsAreConcat
parts_are_concat s v e f u w x y h k = record {
  width = ap (λ a. a + (width_of s f + 0)) h.width ∙ ap (λ a. u + a) (no_more (width_of s f) ∙ k.width);
  unsigned = refl;
  value =
      ap (λ a. a * 2 ^ (width_of s f + 0) + (value_of s v f (width_of s f) (sign_of s f) * 2 ^ 0 + 0)) (by_itself s v e u x h)
      ∙ (ap (λ a. x * 2 ^ a + (value_of s v f (width_of s f) (sign_of s f) * 2 ^ 0 + 0)) (no_more (width_of s f) ∙ k.width)
      ∙ (ap (λ a. x * 2 ^ w + (a * 2 ^ 0 + 0)) (by_itself s v f w y k) ∙ joined x y (2 ^ w)));
  fits = concat_below x u y w h.fits k.fits;
}

pub filled_is_zext : FilledIsZext
filled_is_zext s v e w n x low h =
    subst (λ y. IsWorth s v (filled n w e) n y) (low_part x (2 ^ w))
    (subst (λ m. IsWorth s v (filled n w e) m (word_concat w 0 x)) (whole n w low)
    (parts_are_concat s v (sized (n - w) 0) e (n - w) w 0 x (sized_is_const s v (n - w) 0 (pow_pos (n - w))) h))
  where
    low_part : (a p : ℕ) → 0 * p + a ≡ a
    low_part a p = omega arith

    whole : (m u : ℕ) → u < m → m - u + u ≡ m
    whole m u l = omega (arith, l)
