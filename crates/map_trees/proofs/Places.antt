-- Lists of which each is so with the one at its place, as loops make them.
use Rattle.std.proofs.Common.{◌≡◌, ◌∙◌, ℕ, zero, suc, ◌+◌, ◌<◌, ◌≤◌, refl, sym, ap, subst, List, [], ◌∷◌, ◌++◌, length, get_or, take, map, arith}
use Rattle.std.specs.Prelude.{Contains}
use Rattle.std.proofs.lemmas.List.{take_more, take_all}
use Rattle.std.proofs.lemmas.List.Elements.{Contains-get_or}
use Rattle.std.specs.List.{AllZip}

module _ {A B : Type 0} (IsSo : A → B → Type 0) where
  each_pushed : (xs : List A) (ys : List B) (x : A) (y : B) → AllZip IsSo xs ys → IsSo x y → AllZip IsSo (xs ++ x ∷ []) (ys ++ y ∷ [])
  each_pushed [] [] x y h k = (k, tt)
  each_pushed [] (z ∷ ys) x y h k = absurd h
  each_pushed (w ∷ xs) [] x y h k = absurd h
  each_pushed (w ∷ xs) (z ∷ ys) x y h k = (h.0, each_pushed xs ys x y h.1 k)

  -- a turn over the second list
  pub each_turn : (xs more : List A) (ys : List B) (i : ℕ) (x : A) (y d : B) → i < length ys → y ≡ get_or ys i d → more ≡ xs ++ x ∷ [] → IsSo x y
      → AllZip IsSo xs (take i ys) → AllZip IsSo more (take (i + 1) ys)
  each_turn xs more ys i x y d lt is grown so h =
      subst (λ zs. AllZip IsSo zs (take (i + 1) ys)) (sym grown)
      (subst (AllZip IsSo (xs ++ x ∷ [])) (ap (λ z. take i ys ++ z ∷ []) is ∙ sym (take_more ys i d lt)) (each_pushed xs (take i ys) x y h so))

  -- the end
  pub each_end : (xs : List A) (ys : List B) (i : ℕ) → length ys ≤ i → AllZip IsSo xs (take i ys) → AllZip IsSo xs ys
  each_end xs ys i le h = subst (AllZip IsSo xs) (take_all i ys le) h

  -- the one at a place of the first list
  pub each_at : (xs : List A) (ys : List B) (i : ℕ) (x d : A) → i < length xs → x ≡ get_or xs i d → AllZip IsSo xs ys → (y : B) × Contains ys y × IsSo x y
  each_at [] ys i x d lt is h = absurd (omega (arith, lt))
  each_at (w ∷ xs) [] i x d lt is h = absurd h
  each_at (w ∷ xs) (y ∷ ys) zero x d lt is h = (y, (0, omega arith, refl), subst (λ z. IsSo z y) (sym is) h.0)
  each_at (w ∷ xs) (y ∷ ys) (suc i) x d lt is h =
      let r = each_at xs ys i x d (omega (arith, lt)) is h.1 in (r.0, (suc r.1.0, omega (arith, r.1.1), r.1.2), r.2)

-- each by a view of the second list
pub each_viewed : {A B C : Type 0} (IsSo : A → C → Type 0) (f : B → C) (xs : List A) (ys : List B) → AllZip (λ x y. IsSo x (f y)) xs ys → AllZip IsSo xs (map f ys)
each_viewed IsSo f [] [] h = h
each_viewed IsSo f [] (y ∷ ys) h = absurd h
each_viewed IsSo f (x ∷ xs) [] h = absurd h
each_viewed IsSo f (x ∷ xs) (y ∷ ys) h = (h.0, each_viewed IsSo f xs ys h.1)

-- from a list to a third one, over the one between
pub each_through : {A B C : Type 0} (One : A → B → Type 0) (Two : B → C → Type 0) (Both : A → C → Type 0) → ((x : A) (y : B) (z : C) → One x y → Two y z → Both x z)
    → (xs : List A) (ys : List B) (zs : List C) → AllZip One xs ys → AllZip Two ys zs → AllZip Both xs zs
each_through One Two Both join [] [] [] h k = tt
each_through One Two Both join [] [] (z ∷ zs) h k = absurd k
each_through One Two Both join [] (y ∷ ys) zs h k = absurd h
each_through One Two Both join (x ∷ xs) [] zs h k = absurd h
each_through One Two Both join (x ∷ xs) (y ∷ ys) [] h k = absurd k
each_through One Two Both join (x ∷ xs) (y ∷ ys) (z ∷ zs) h k = (join x y z h.0 k.0, each_through One Two Both join xs ys zs h.1 k.1)
