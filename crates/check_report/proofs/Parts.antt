-- The parts of a line's text, one after the other.
use Rattle.std.proofs.Common.{◌≡◌, ℕ, List, [], ◌∷◌, ◌++◌, ap, ◌∙◌, append_assoc}
use Rattle.std.specs.Prelude.{codes}

-- seven parts
seven : (o₀ o₁ o₂ o₃ o₄ o₅ o₆ o₇ a b c d e f g : List ℕ) → o₁ ≡ o₀ ++ a → o₂ ≡ o₁ ++ b → o₃ ≡ o₂ ++ c → o₄ ≡ o₃ ++ d → o₅ ≡ o₄ ++ e → o₆ ≡ o₅ ++ f
    → o₇ ≡ o₆ ++ g → o₇ ≡ o₀ ++ (a ++ b ++ c ++ d ++ e ++ f ++ g)
seven o₀ o₁ o₂ o₃ o₄ o₅ o₆ o₇ a b c d e f g e₁ e₂ e₃ e₄ e₅ e₆ e₇ =
    let all : o₀ ++ a ++ b ++ c ++ d ++ e ++ f ++ g ≡ o₀ ++ (a ++ b ++ c ++ d ++ e ++ f ++ g) = simp append_assoc in
    e₇
    ∙ (ap (λ o. o ++ g)
    (e₆ ∙ ap (λ o. o ++ f) (e₅ ∙ ap (λ o. o ++ e) (e₄ ∙ ap (λ o. o ++ d) (e₃ ∙ ap (λ o. o ++ c) (e₂ ∙ ap (λ o. o ++ b) e₁)))))
    ∙ all)

pub total_parts : (o₀ o₁ o₂ o₃ o₄ o₅ o₆ o₇ p f u : List ℕ) → o₁ ≡ o₀ ++ codes "total proved " → o₂ ≡ o₁ ++ p → o₃ ≡ o₂ ++ codes " failed " → o₄ ≡ o₃ ++ f
    → o₅ ≡ o₄ ++ codes " unknown " → o₆ ≡ o₅ ++ u → o₇ ≡ o₆ ++ 10 ∷ []
    → o₇ ≡ o₀ ++ (codes "total proved " ++ p ++ codes " failed " ++ f ++ codes " unknown " ++ u ++ 10 ∷ [])
total_parts o₀ o₁ o₂ o₃ o₄ o₅ o₆ o₇ p f u = seven o₀ o₁ o₂ o₃ o₄ o₅ o₆ o₇ (codes "total proved ") p (codes " failed ") f (codes " unknown ") u (10 ∷ [])

pub failed_parts : (o₀ o₁ o₂ o₃ t : List ℕ) → o₁ ≡ o₀ ++ codes " failed " → o₂ ≡ o₁ ++ t → o₃ ≡ o₂ ++ 10 ∷ []
    → o₃ ≡ o₀ ++ (codes " failed " ++ t ++ 10 ∷ [])
failed_parts o₀ o₁ o₂ o₃ t e₁ e₂ e₃ =
    let all : o₀ ++ codes " failed " ++ t ++ 10 ∷ [] ≡ o₀ ++ (codes " failed " ++ t ++ 10 ∷ []) = simp append_assoc in
    e₃ ∙ (ap (λ o. o ++ 10 ∷ []) (e₂ ∙ ap (λ o. o ++ t) e₁) ∙ all)

pub said : (o₀ o₁ o₂ n t : List ℕ) → o₁ ≡ o₀ ++ n → o₂ ≡ o₁ ++ (t ++ 10 ∷ []) → o₂ ≡ o₀ ++ (n ++ t ++ 10 ∷ [])
said o₀ o₁ o₂ n t e₁ e₂ =
    let all : o₀ ++ n ++ (t ++ 10 ∷ []) ≡ o₀ ++ (n ++ t ++ 10 ∷ []) = simp append_assoc in
    e₂ ∙ (ap (λ o. o ++ (t ++ 10 ∷ [])) e₁ ∙ all)
