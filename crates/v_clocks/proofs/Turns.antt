-- Loops that put what is made of each element of a list behind what was there.
use Rattle.std.proofs.Common.{◌≡◌, ◌∙◌, ◌<◌, ◌≤◌, ◌+◌, ℕ, ap, sym, List, [], ◌∷◌, ◌++◌, map, length, drop, get_or}
use Rattle.std.proofs.lemmas.List.{append_assoc, append-nil, map-append, drop_more, at_drop_all}

-- what is made of one element, and of all of a list
module _ {A C : Type 0} (piece : A → List C) (all : List A → List C) (more : (x : A) (xs : List A) → all (x ∷ xs) ≡ piece x ++ all xs) where
  pub turn : (xs : List A) (i : ℕ) (d : A) (whole now new : List C) → i < length xs → whole ≡ now ++ all (drop i xs) → new ≡ now ++ piece (get_or xs i d)
      → whole ≡ new ++ all (drop (i + 1) xs)
  turn xs i d whole now new lt h p =
      h ∙ ap (λ ys. now ++ all ys) (drop_more xs i d lt) ∙ ap (λ zs. now ++ zs) (more (get_or xs i d) (drop (i + 1) xs))
      ∙ sym (append_assoc now (piece (get_or xs i d)) (all (drop (i + 1) xs))) ∙ ap (λ ys. ys ++ all (drop (i + 1) xs)) (sym p)

  pub end : all [] ≡ [] → (xs : List A) (i : ℕ) (whole now : List C) → length xs ≤ i → whole ≡ now ++ all (drop i xs) → now ≡ whole
  end none xs i whole now le h =
      sym (append-nil now) ∙ ap (λ zs. now ++ zs) (sym none) ∙ sym (at_drop_all (λ ys. now ++ all ys) xs i le) ∙ sym h

-- the same, where what is made rests on the element's number
module _ {A C : Type 0} (piece : ℕ → A → List C) (all : ℕ → List A → List C) (more : (k : ℕ) (x : A) (xs : List A) → all k (x ∷ xs) ≡ piece k x ++ all (k + 1) xs) where
  pub numbered_turn : (xs : List A) (i : ℕ) (d : A) (whole now new : List C) → i < length xs → whole ≡ now ++ all i (drop i xs)
      → new ≡ now ++ piece i (get_or xs i d) → whole ≡ new ++ all (i + 1) (drop (i + 1) xs)
  numbered_turn xs i d whole now new lt h p =
      h ∙ ap (λ ys. now ++ all i ys) (drop_more xs i d lt) ∙ ap (λ zs. now ++ zs) (more i (get_or xs i d) (drop (i + 1) xs))
      ∙ sym (append_assoc now (piece i (get_or xs i d)) (all (i + 1) (drop (i + 1) xs))) ∙ ap (λ ys. ys ++ all (i + 1) (drop (i + 1) xs)) (sym p)

  pub numbered_end : ((k : ℕ) → all k [] ≡ []) → (xs : List A) (i : ℕ) (whole now : List C) → length xs ≤ i → whole ≡ now ++ all i (drop i xs) → now ≡ whole
  numbered_end none xs i whole now le h =
      sym (append-nil now) ∙ ap (λ zs. now ++ zs) (sym (none i)) ∙ sym (at_drop_all (λ ys. now ++ all i ys) xs i le) ∙ sym h

-- one more is seen behind what was seen before
pub pushed : {A B : Type 0} (view : A → B) (now new : List A) (x : A) (y : B) → new ≡ now ++ x ∷ [] → view x ≡ y → map view new ≡ map view now ++ y ∷ []
pushed view now new x y p e = ap (map view) p ∙ map-append view now (x ∷ []) ∙ ap (λ z. map view now ++ z ∷ []) e

-- nothing is
pub nothing : {A : Type 0} (xs ys : List A) → ys ≡ [] → xs ≡ xs ++ ys
nothing xs ys e = sym (append-nil xs) ∙ ap (λ zs. xs ++ zs) (sym e)
