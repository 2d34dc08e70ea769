-- Lists of the values of a function at the first numbers.
use Rattle.std.proofs.Common.{◌≡◌, ℕ, zero, suc, ◌+◌, ◌<◌, ◌≤◌, List, [], ◌∷◌, ◌++◌, map, length, get_or, Contains, refl, sym, ap, ◌∙◌, subst, arith, length-append, append_assoc, inl, inr, ◌⊎◌}
use Rattle.std.proofs.lemmas.Bool.{cases_lt}
use Rattle.std.proofs.lemmas.List.{get_or_append_left, get_or_at, map-append}
use Rattle.std.proofs.lemmas.List.Elements.{Contains-append_left, Contains-push, Contains-push_cases}
use Rattle.ob_mem.specs.Words.{listed}

pub length-listed : {A : Type 0} (f : ℕ → A) (n : ℕ) → length (listed f n) ≡ n
length-listed f zero = refl
length-listed f (suc n) = omega (arith, length-append (listed f n) (f n ∷ []), length-listed f n)

at_place : {A : Type 0} (f : ℕ → A) (n k : ℕ) (d : A) → (k < n → get_or (listed f n) k d ≡ f k) → k < suc n → (k < n) ⊎ (n ≤ k) → get_or (listed f (suc n)) k d ≡ f k
at_place f n k d h b (inl l) = get_or_append_left (listed f n) (f n ∷ []) d k (omega (arith, length-listed f n)) ∙ h l
at_place f n k d h b (inr l) =
    let e : n ≡ k = omega (arith, b, l) in
    get_or_at (listed f n) (f n) [] d k (length-listed f n ∙ e) ∙ ap f e

pub get_or-listed : {A : Type 0} (f : ℕ → A) (n k : ℕ) (d : A) → k < n → get_or (listed f n) k d ≡ f k
get_or-listed f zero k d b = absurd (omega arith)
get_or-listed f (suc n) k d b = at_place f n k d (get_or-listed f n k d) b (cases_lt k n)

pub listed-map : {A B : Type 0} (g : A → B) (f : ℕ → A) (n : ℕ) → map g (listed f n) ≡ listed (λ k. g (f k)) n
listed-map g f zero = refl
listed-map g f (suc n) = map-append g (listed f n) (f n ∷ []) ∙ ap (λ xs. xs ++ g (f n) ∷ []) (listed-map g f n)

pub Contains-listed : {A : Type 0} (f : ℕ → A) (n k : ℕ) → k < n → Contains (listed f n) (f k)
Contains-listed f n k b = (k, omega (arith, length-listed f n), get_or-listed f n k (f k) b)

-- what stands in the list is the value at some place
pub listed_cases : {A : Type 0} (f : ℕ → A) (n : ℕ) (x : A) → Contains (listed f n) x → (k : ℕ) × (k < n) × (x ≡ f k)
listed_cases f n x c = (c.0, omega (arith, c.1, length-listed f n), sym c.2 ∙ get_or-listed f n c.0 x (omega (arith, c.1, length-listed f n)))
