-- Digits of bits, appended one after the other.
use Rattle.std.proofs.Common.{◌≡◌, ℕ, suc, ◌-◌, ◌<◌, List, [], ◌∷◌, ◌++◌, ap, ◌∙◌, subst, arith, append_assoc}
use Rattle.v_print.specs.Spelled.{bit_digit, bit_of, bit_digits}

next_by : (left : ℕ) (v u w : ℕ) (text new digit goal : List ℕ) → text ++ bit_digits (suc left) v u w ≡ goal → new ≡ text ++ digit
    → digit ≡ bit_digit (bit_of v left) (bit_of u left) (bit_of w left) ∷ [] → new ++ bit_digits left v u w ≡ goal
unfolding bit_digits
next_by left v u w text new digit goal h e d =
    ap (λ (t : List ℕ). t ++ bit_digits left v u w) (e ∙ ap (λ (t : List ℕ). text ++ t) d)
    ∙ append_assoc text (bit_digit (bit_of v left) (bit_of u left) (bit_of w left) ∷ []) (bit_digits left v u w) ∙ h

-- a digit more
pub next_digit : (k left : ℕ) (v u w : ℕ) (text new digit goal : List ℕ) → 0 < k → left ≡ k - 1 → text ++ bit_digits k v u w ≡ goal → new ≡ text ++ digit
    → digit ≡ bit_digit (bit_of v left) (bit_of u left) (bit_of w left) ∷ [] → new ++ bit_digits left v u w ≡ goal
next_digit k left v u w text new digit goal l s h e d =
    let more : k ≡ suc left = omega (arith, l, s) in
    next_by left v u w text new digit goal (subst (λ n. text ++ bit_digits n v u w ≡ goal) more h) e d
