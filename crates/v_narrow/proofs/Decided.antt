-- What the tests of numbers say: each is true where its fact holds, and only there.
use Rattle.std.proofs.Common.{◌≡◌, ℕ, zero, suc, ◌*◌, ◌≤◌, min, Bool, true, false, ◌&&◌, nat_le, refl, sym, ap, ◌∙◌, ⊎_elim, arith}
use Rattle.std.proofs.lemmas.Bool.{cases_lt}
use Rattle.std.proofs.lemmas.Bool.Decides.{Decides-and, nat_tests}
use Rattle.verilog_meaning.specs.Expression.{Object, object_width}
use Rattle.v_value.specs.Narrow.{IsWidth}
use Rattle.v_narrow.specs.Test.{is_width, is_object_narrow}

-- the test is true where the fact holds, and only there
abbrev pub Decides : Bool → Type 0 → Type 0
Decides b P = (b ≡ true → P) × (P → b ≡ true)

pub at_most : (a b : ℕ) → Decides (nat_le a b) (a ≤ b)
at_most a b = (λ h. grind (arith, nat_tests, h), λ h. grind (arith, nat_tests, h))

pub width-decides : (w : ℕ) → Decides (is_width w) (IsWidth w)
width-decides w = Decides-and (nat_le 1 w) (nat_le w 128) (at_most 1 w) (at_most w 128)

-- two tests of one fact
same : {P : Type 0} (a b : Bool) → Decides a P → Decides b P → a ≡ b
same true true h k = refl
same true false h k = sym (k.1 (h.0 refl))
same false true h k = h.1 (k.0 refl)
same false false h k = refl

pub same-width : (a b : ℕ) → (IsWidth a → IsWidth b) → (IsWidth b → IsWidth a) → is_width a ≡ is_width b
same-width a b f g = same (is_width a) (is_width b) (λ e. f ((width-decides a).0 e), λ h. (width-decides a).1 (g h)) (width-decides b)

pub object-decides : (o : Object) → Decides (is_object_narrow o) (object_width o ≤ 128)
object-decides o = at_most (object_width o) 128

some_width : (o : Object) → 1 ≤ object_width o
some_width o = omega arith

pub whole-same : (o : Object) → is_object_narrow o ≡ is_width (object_width o)
whole-same o = same (is_object_narrow o) (is_width (object_width o)) (object-decides o)
    (λ e. ((width-decides (object_width o)).0 e).1, λ h. (width-decides (object_width o)).1 (some_width o, h))

-- so many copies, where 129 stands for all widths above 128
too_wide : (c w : ℕ) → 129 ≤ w → IsWidth (c * w) → ⊥
too_wide zero w h k = omega (arith, k.0)
too_wide (suc c) w h k = omega (arith, h, k.1)

pub copies-same : (c w : ℕ) → is_width (c * min w 129) ≡ is_width (c * w)
copies-same c w = ⊎_elim
    (λ h. let e : min w 129 ≡ w = omega (arith, h) in ap (λ k. is_width (c * k)) e)
    (λ h. let e : min w 129 ≡ 129 = omega (arith, h) in ap (λ k. is_width (c * k)) e
    ∙ same-width (c * 129) (c * w) (λ k. absurd (too_wide c 129 (omega arith) k)) (λ k. absurd (too_wide c w (omega (arith, h)) k)))
    (cases_lt w 130)

-- what a program returned of copies, where t, u and v are true
pub copies-if : (t u v r : Bool) (c n w m : ℕ) → t ≡ true → u ≡ true → v ≡ true → r ≡ is_width (c * w) → c ≡ n → w ≡ min m 129 → r ≡ (t && (u && v)) && is_width (n * m)
copies-if t u v r c n w m is_t is_u is_v h i j =
    h ∙ ap (λ k. is_width (k * w)) i ∙ ap (λ k. is_width (n * k)) j ∙ copies-same n m
    ∙ sym (ap (λ b. (b && (u && v)) && is_width (n * m)) is_t ∙ ap (λ b. (b && v) && is_width (n * m)) is_u ∙ ap (λ b. b && is_width (n * m)) is_v)
