-- A property that goes down from each element to another one cannot hold within a list, where nothing is below itself.
use Rattle.std.proofs.Common.{◌≡◌, ℕ, zero, suc, ◌<◌, ◌≤◌, List, [], ◌∷◌, ◌++◌, length, ◌⊎◌, inl, inr, refl, sym, ap, ◌∙◌, subst, arith, get_or}
use Rattle.std.specs.List.{Contains}

-- x is an element of the list
abbrev pub IsAmong : {A : Type 0} → List A → A → Type 0
IsAmong [] x = ⊥
IsAmong (y ∷ ys) x = (y ≡ x) ⊎ IsAmong ys x

pub among_left : {A : Type 0} (xs ys : List A) (x : A) → IsAmong xs x → IsAmong (xs ++ ys) x
among_left [] ys x h = absurd h
among_left (z ∷ xs) ys x (inl e) = inl e
among_left (z ∷ xs) ys x (inr h) = inr (among_left xs ys x h)

pub among_right : {A : Type 0} (xs ys : List A) (x : A) → IsAmong ys x → IsAmong (xs ++ ys) x
among_right [] ys x h = h
among_right (z ∷ xs) ys x h = inr (among_right xs ys x h)

pub among_either : {A : Type 0} (xs ys : List A) (x : A) → IsAmong (xs ++ ys) x → IsAmong xs x ⊎ IsAmong ys x
among_either [] ys x h = inr h
among_either (z ∷ xs) ys x (inl e) = inl (inl e)
among_either (z ∷ xs) ys x (inr h) = elim (among_either xs ys x h) as (λ _. IsAmong (z ∷ xs) x ⊎ IsAmong ys x) [ inl k ↦ inl (inr k) | inr k ↦ inr k ]

pub contains_among : {A : Type 0} (xs : List A) (x : A) → IsAmong xs x → Contains xs x
contains_among [] x h = absurd h
contains_among (y ∷ ys) x (inl e) = (0, omega arith, e)
contains_among (y ∷ ys) x (inr h) = let c : Contains ys x = contains_among ys x h in (suc c.0, omega (arith, c.1), c.2)

pub among_contains : {A : Type 0} (xs : List A) (x : A) → Contains xs x → IsAmong xs x
among_contains [] x c = absurd (omega (arith, c.1))
among_contains (y ∷ ys) x c = at (λ d. among_contains ys x d) c.0 c.1 c.2
  where
    at : (Contains ys x → IsAmong ys x) → (k : ℕ) → k < length (y ∷ ys) → get_or (y ∷ ys) k x ≡ x → IsAmong (y ∷ ys) x
    at f zero l e = inl e
    at f (suc k) l e = inr (f (k, omega (arith, l), e))

-- the list without one place at which the element stands
pub without : {A : Type 0} (xs : List A) (x : A) → IsAmong xs x → List A
without [] x h = []
without (y ∷ ys) x (inl e) = ys
without (y ∷ ys) x (inr h) = y ∷ without ys x h

pub length_without : {A : Type 0} (xs : List A) (x : A) (h : IsAmong xs x) → suc (length (without xs x h)) ≡ length xs
unfolding without
length_without [] x h = absurd h
length_without (y ∷ ys) x (inl e) = refl
length_without (y ∷ ys) x (inr h) = ap suc (length_without ys x h)

pub kept : {A : Type 0} (xs : List A) (x : A) (h : IsAmong xs x) (z : A) → IsAmong xs z → (x ≡ z → ⊥) → IsAmong (without xs x h) z
unfolding without
kept [] x h z g n = absurd g
kept (y ∷ ys) x (inl e) z (inl f) n = absurd (n (sym e ∙ f))
kept (y ∷ ys) x (inl e) z (inr g) n = g
kept (y ∷ ys) x (inr h) z (inl f) n = inl f
kept (y ∷ ys) x (inr h) z (inr g) n = inr (kept ys x h z g n)

-- an element of the list is the one that is left out, or is left
pub split : {A : Type 0} (xs : List A) (x : A) (h : IsAmong xs x) (z : A) → IsAmong xs z → (z ≡ x) ⊎ IsAmong (without xs x h) z
unfolding without
split [] x h z g = absurd g
split (y ∷ ys) x (inl e) z (inl f) = inl (sym f ∙ e)
split (y ∷ ys) x (inl e) z (inr g) = inr g
split (y ∷ ys) x (inr h) z (inl f) = inr (inl f)
split (y ∷ ys) x (inr h) z (inr g) = elim (split ys x h z g) as (λ _. (z ≡ x) ⊎ IsAmong (y ∷ without ys x h) z) [ inl e ↦ inl e | inr k ↦ inr (inr k) ]

-- Far holds of each pair of neighbours and of longer chains, and of nothing with itself. Where each element with the property has
-- one below it with the property, none that lies in the list with all below it has it.
pub descends : {A : Type 0} (Below Far : A → A → Type 0) (P : A → Type 0) → ((u y : A) → Below u y → Far u y)
    → ((u x y : A) → Below u x → Far x y → Far u y) → ((u : A) → Far u u → ⊥)
    → ((u : A) → P u → ((y : A) → Below u y → P y → ⊥) → ⊥) → (n : ℕ) (rest : List A) → length rest ≤ n → (u : A) → P u
    → ((z : A) → Far u z → P z → IsAmong rest z) → ⊥
descends {A} Below Far P near further none step zero rest l u p h =
    step u p (λ y b q. empty rest y l (h y (near u y b) q))
  where
    empty : (xs : List A) (x : A) → length xs ≤ 0 → IsAmong xs x → ⊥
    empty [] x k g = g
    empty (z ∷ xs) x k g = omega (arith, k)
descends {A} Below Far P near further none step (suc n) rest l u p h =
    step u p
    (λ y b q.
    let here : IsAmong rest y = h y (near u y b) q in
    let shorter : suc (length (without rest y here)) ≡ length rest = length_without rest y here in
    descends Below Far P near further none step n (without rest y here) (omega (arith, l, shorter)) y q
    (λ z far pz. kept rest y here z (h z (further u y z b far) pz) (λ e. none z (subst (λ t. Far t z) e far))))
