-- Digits that are put in front of those that are there.
use Rattle.std.proofs.Common.{◌≡◌, ℕ, zero, suc, ◌/◌, ◌%◌, ◌<◌, ◌≤◌, Bool, true, false, List, [], ◌∷◌, ◌++◌, length, take, drop, refl, sym, ap, ◌∙◌, arith, eq-eqb, ne_eqb}
use Rattle.std.specs.Prelude.{◌==◌, if◌then◌else◌}
use Rattle.std.specs.Fmt.{digits, digits_onto, digit_glyph}
use Rattle.std.proofs.Math.ListN.{take-append-drop}

unfoldable pub hex_onto : ℕ → ℕ → List ℕ → List ℕ
hex_onto k n acc = digits_onto k 16 false n acc

pub hex_start : (n : ℕ) → hex_onto 64 n [] ≡ digits 16 false n
unfolding hex_onto digits
hex_start n = refl

pub hex_over : (k n : ℕ) (acc : List ℕ) → k ≡ 0 → hex_onto k n acc ≡ acc
unfolding hex_onto
hex_over zero n acc e = refl
hex_over (suc k) n acc e = absurd (omega arith)

by_test : (k n : ℕ) (acc : List ℕ) (t : Bool) → (n / 16 == 0) ≡ t
    → hex_onto (suc k) n acc ≡ (if t then digit_glyph false (n % 16) ∷ acc else hex_onto k (n / 16) (digit_glyph false (n % 16) ∷ acc))
unfolding hex_onto
by_test k n acc t e =
    ap (λ (b : Bool). if b then digit_glyph false (n % 16) ∷ acc else digits_onto k 16 false (n / 16) (digit_glyph false (n % 16) ∷ acc)) e

pub hex_last : (k n g : ℕ) (acc : List ℕ) → 0 < k → g ≡ digit_glyph false (n % 16) → n / 16 ≡ 0 → hex_onto k n acc ≡ g ∷ acc
hex_last zero n g acc h e z = absurd (omega arith)
hex_last (suc k) n g acc h e z = by_test k n acc true (eq-eqb (n / 16) 0 z) ∙ ap (λ x. x ∷ acc) (sym e)

pub hex_next : (k j n g : ℕ) (acc : List ℕ) → k ≡ suc j → g ≡ digit_glyph false (n % 16) → (n / 16 ≡ 0 → ⊥)
    → hex_onto k n acc ≡ hex_onto j (n / 16) (g ∷ acc)
hex_next k j n g acc is_k e z =
    ap (λ i. hex_onto i n acc) is_k ∙ (by_test j n acc false (ne_eqb (n / 16) 0 z) ∙ ap (λ x. hex_onto j (n / 16) (x ∷ acc)) (sym e))

pub same_front : (s g : ℕ) (xs : List ℕ) → s ≤ length xs → take s (take s xs ++ g ∷ drop s xs) ≡ take s xs
same_front zero g xs h = refl
same_front (suc s) g [] h = absurd (omega arith)
same_front (suc s) g (x ∷ xs) h = ap (λ ys. x ∷ ys) (same_front s g xs (omega arith))

pub new_back : (s g : ℕ) (xs : List ℕ) → s ≤ length xs → drop s (take s xs ++ g ∷ drop s xs) ≡ g ∷ drop s xs
new_back zero g xs h = refl
new_back (suc s) g [] h = absurd (omega arith)
new_back (suc s) g (x ∷ xs) h = new_back s g xs (omega arith)

pub joined : (s : ℕ) (new old back : List ℕ) → take s new ≡ old → drop s new ≡ back → new ≡ old ++ back
joined s new old back e f = sym (take-append-drop s new) ∙ (ap (λ xs. xs ++ drop s new) e ∙ ap (λ xs. old ++ xs) f)
