-- Loops that make something of each element of a list.
use Rattle.std.proofs.Common.{◌≡◌, ℕ, zero, suc, ◌+◌, ◌-◌, ◌<◌, ◌≤◌, List, [], ◌∷◌, ◌++◌, map, length, drop, get_or, Option, Some, None, option_map, slice_get, refl, sym, ◌∙◌, ap, arith}
use Rattle.std.proofs.lemmas.List.{append_assoc, append-nil, map-append, drop_more, at_drop_all}
use Rattle.std.proofs.lemmas.Option.{slice_get_within, get_or_from_slice_get, none-some, same_Some}

pub ap2 : {A B C : Type 0} (g : A → B → C) {a b : A} {c d : B} → a ≡ b → c ≡ d → g a c ≡ g b d
ap2 g {a} {b} {c} {d} e h = ap (λ x. g x c) e ∙ ap (g b) h

pub ap3 : {A B C D : Type 0} (g : A → B → C → D) {a b : A} {c d : B} {x y : C} → a ≡ b → c ≡ d → x ≡ y → g a c x ≡ g b d y
ap3 g {a} {b} {c} {d} {x} {y} e h k = ap (λ z. g z c x) e ∙ ap (λ z. g b z x) h ∙ ap (g b d) k

pub map_map : {A B C : Type 0} (f : B → C) (g : A → B) (xs : List A) → map f (map g xs) ≡ map (λ x. f (g x)) xs
map_map f g [] = refl
map_map f g (x ∷ xs) = ap (λ ys. f (g x) ∷ ys) (map_map f g xs)

pub drop_is : {A : Type 0} (xs : List A) (i : ℕ) (x : A) → slice_get xs i ≡ Some x → drop i xs ≡ x ∷ drop (i + 1) xs
drop_is xs i x at = drop_more xs i x (slice_get_within xs i x at) ∙ ap (λ y. y ∷ drop (i + 1) xs) (get_or_from_slice_get xs i x x at)

pub one_pushed : {A : Type 0} (xs ys : List A) (x : A) → xs ≡ [] → ys ≡ xs ++ x ∷ [] → ys ≡ x ∷ []
one_pushed xs ys x e f = f ∙ ap (λ zs. zs ++ x ∷ []) e

-- what an element that was pushed is seen as
pub pushed_view : {B C : Type 0} (view : B → C) (xs ys : List B) (x : B) → ys ≡ xs ++ x ∷ [] → map view ys ≡ map view xs ++ view x ∷ []
pushed_view view xs ys x e = ap (map view) e ∙ map-append view xs (x ∷ [])

module _ {A C : Type 0} (h : A → C) where
  -- one element more
  pub onward : (xs : List A) (i : ℕ) (x : A) (all done new : List C) (made : C) → slice_get xs i ≡ Some x
      → done ++ map h (drop i xs) ≡ all → made ≡ h x → new ≡ done ++ made ∷ [] → new ++ map h (drop (i + 1) xs) ≡ all
  onward xs i x all done new made at before is pushed =
      ap (λ ys. ys ++ map h (drop (i + 1) xs)) pushed
      ∙ append_assoc done (made ∷ []) (map h (drop (i + 1) xs))
      ∙ ap (λ c. done ++ c ∷ map h (drop (i + 1) xs)) is
      ∙ ap (λ ys. done ++ map h ys) (sym (drop_is xs i x at))
      ∙ before

  -- none left
  pub ended : (xs : List A) (i : ℕ) (all done : List C) → length xs ≤ i → done ++ map h (drop i xs) ≡ all → done ≡ all
  ended xs i all done le before = sym (append-nil done) ∙ sym (at_drop_all (λ ys. done ++ map h ys) xs i le) ∙ before

-- The element of which something is known.
pub found : {A B : Type 0} (f : A → B) (xs : List A) (i : ℕ) (b : B) → option_map f (slice_get xs i) ≡ Some b → (x : A) × (slice_get xs i ≡ Some x) × (f x ≡ b)
found {A} f xs i b e = by_case (slice_get xs i) refl e
  where
    by_case : (o : Option A) → slice_get xs i ≡ o → option_map f o ≡ Some b → (x : A) × (slice_get xs i ≡ Some x) × (f x ≡ b)
    by_case None is g = absurd (none-some b g)
    by_case (Some x) is g = (x, is, same_Some (f x) b g)

pub same_at : {A B : Type 0} (f : A → B) (xs : List A) (i : ℕ) (x : A) (b : B) → slice_get xs i ≡ Some x → option_map f (slice_get xs i) ≡ Some b → f x ≡ b
same_at f xs i x b is e = same_Some (f x) b (sym (ap (option_map f) is) ∙ e)

-- a list that begins with what stands at a place
pub head_at : {A : Type 0} (xs : List A) (k : ℕ) (y : A) (ys : List A) (d : A) → drop k xs ≡ y ∷ ys → get_or xs k d ≡ y
head_at [] zero y ys d e = cc
head_at [] (suc k) y ys d e = cc
head_at (x ∷ xs) zero y ys d e = ap (λ zs. get_or zs 0 d) e
head_at (x ∷ xs) (suc k) y ys d e = head_at xs k y ys d e

pub tail_at : {A : Type 0} (xs : List A) (k : ℕ) (y : A) (ys : List A) → drop k xs ≡ y ∷ ys → drop (suc k) xs ≡ ys
tail_at [] zero y ys e = cc
tail_at [] (suc k) y ys e = cc
tail_at (x ∷ xs) zero y ys e = ap (drop 1) e
tail_at (x ∷ xs) (suc k) y ys e = tail_at xs k y ys e

-- Loops that make a list of each element.
module _ {A C : Type 0} (F : List A → List C) (one : A → List C) (split : (x : A) (xs : List A) → F (x ∷ xs) ≡ one x ++ F xs) where
  pub onward_by : (xs : List A) (i : ℕ) (x : A) (all done new : List C) → slice_get xs i ≡ Some x → done ++ F (drop i xs) ≡ all → new ≡ done ++ one x
      → new ++ F (drop (i + 1) xs) ≡ all
  onward_by xs i x all done new at before made =
      ap (λ ys. ys ++ F (drop (i + 1) xs)) made
      ∙ append_assoc done (one x) (F (drop (i + 1) xs))
      ∙ ap (λ ys. done ++ ys) (sym (split x (drop (i + 1) xs)))
      ∙ ap (λ ys. done ++ F ys) (sym (drop_is xs i x at))
      ∙ before

pub ended_by : {A C : Type 0} (F : List A → List C) (none : F [] ≡ []) (xs : List A) (i : ℕ) (all done : List C) → length xs ≤ i → done ++ F (drop i xs) ≡ all → done ≡ all
ended_by F none xs i all done le before =
    sym (append-nil done) ∙ ap (λ ys. done ++ ys) (sym none) ∙ sym (at_drop_all (λ ys. done ++ F ys) xs i le) ∙ before

-- what stands behind a place, from the end on
pub last_drop : {A : Type 0} (xs : List A) (after place : ℕ) (x : A) → place ≡ length xs - 1 - after → after < length xs → slice_get xs place ≡ Some x
    → drop (length xs - (after + 1)) xs ≡ x ∷ drop (length xs - after) xs
last_drop xs after place x z l at =
    let e : length xs - (after + 1) ≡ place = omega (arith, z, l) in
    let f : place + 1 ≡ length xs - after = omega (arith, z, l) in
    ap (λ k. drop k xs) e ∙ drop_is xs place x at ∙ ap (λ k. x ∷ drop k xs) f
