-- A list that is made longer by zeros.
use Rattle.std.proofs.Common.{◌≡◌, ◌∙◌, ℕ, ◌-◌, ◌+◌, ◌≤◌, List, [], ◌∷◌, ◌++◌, length, take, replicate, refl, sym, ap, arith, length-append, ◌⊎◌, inl, inr}
use Rattle.std.specs.List.{AllByRecursion}
use Rattle.trace_reading.specs.Given.{with_zeros}

all_zero : (ys : List ℕ) → AllByRecursion (λ y. (y ≡ 0) ⊎ (y ≡ 0)) ys → ys ≡ replicate (length ys) 0
all_zero [] h = refl
all_zero (y ∷ ys) h = let here = either h.0 in let there = all_zero ys h.1 in λ i. here i ∷ there i
  where
    either : (y ≡ 0) ⊎ (y ≡ 0) → y ≡ 0
    either (inl e) = e
    either (inr e) = e

-- what is left of a list, and zeros after it
pub resized : (n : ℕ) (old new ys : List ℕ) → new ≡ take n old ++ ys → AllByRecursion (λ y. (y ≡ 0) ⊎ (y ≡ 0)) ys → length new ≡ n → new ≡ with_zeros n old
resized n old new ys e h l =
    let a : length new ≡ length (take n old) + length ys = ap length e ∙ length-append (take n old) ys in
    let few : length ys ≡ n - length (take n old) = omega (arith, a, l) in
    e ∙ ap (λ zs. take n old ++ zs) (all_zero ys h ∙ ap (λ k. replicate k 0) few)
