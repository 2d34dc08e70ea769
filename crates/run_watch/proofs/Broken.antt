-- The first condition that does not hold, looked for from a place on.
use Rattle.std.proofs.Common.{◌≡◌, ◌∙◌, ℕ, zero, suc, ◌+◌, ◌≤◌, Bool, true, false, cond, List, [], ◌∷◌, length, drop, slice_get, Some, None, refl, sym, ap, arith, add-one}
use Rattle.run_watch.specs.Failing.{first_broken}
use Rattle.run_watch.proofs.Lists.{some_same}

drop_is : {A : Type 0} (xs : List A) (k : ℕ) (x : A) → slice_get xs k ≡ Some x → drop k xs ≡ x ∷ drop (suc k) xs
drop_is [] k x e = let none : None ≡ Some x = e in cc
drop_is (y ∷ ys) zero x e = let same : y ≡ x = some_same e in ap (λ z. z ∷ ys) same
drop_is (y ∷ ys) (suc k) x e = drop_is ys k x e

pub broken_on : (f : ℕ → Bool) (ids : List ℕ) (k id : ℕ) → slice_get ids k ≡ Some id → f id ≡ true
    → first_broken f k (drop k ids) ≡ first_broken f (k + 1) (drop (k + 1) ids)
broken_on f ids k id at holds =
    ap (first_broken f k) (drop_is ids k id at)
    ∙ (ap (λ t. cond t (first_broken f (suc k) (drop (suc k) ids)) (Some k)) holds
    ∙ ap (λ j. first_broken f j (drop j ids)) (sym (add-one k)))

pub broken_here : (f : ℕ → Bool) (ids : List ℕ) (k id : ℕ) → slice_get ids k ≡ Some id → f id ≡ false → first_broken f k (drop k ids) ≡ Some k
broken_here f ids k id at fails =
    ap (first_broken f k) (drop_is ids k id at) ∙ ap (λ t. cond t (first_broken f (suc k) (drop (suc k) ids)) (Some k)) fails

pub broken_none : (f : ℕ → Bool) (ids : List ℕ) (k : ℕ) → length ids ≤ k → first_broken f k (drop k ids) ≡ None
broken_none f ids k le = ap (first_broken f k) (nothing ids k le)
  where
    nothing : (xs : List ℕ) (j : ℕ) → length xs ≤ j → drop j xs ≡ []
    nothing [] zero l = refl
    nothing [] (suc j) l = refl
    nothing (x ∷ xs) zero l = absurd (omega (arith, l))
    nothing (x ∷ xs) (suc j) l = nothing xs j (omega (arith, l))
