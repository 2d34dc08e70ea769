-- Names of declarations, taken one by one.
use Rattle.std.proofs.Common.{◌≡◌, ℕ, zero, suc, ◌+◌, ◌≤◌, List, [], ◌∷◌, ◌++◌, map, length, drop, Some, slice_get, refl, sym, ap, ◌∙◌, arith}
use Rattle.std.proofs.lemmas.List.{append-nil, append_assoc, map-append}
use Rattle.std.specs.Prelude.{option_map}
use Rattle.std.specs.Borrow.{Bor}
use Rattle.wb_values.specs.Value.{Name}

-- the name at a place, and those behind it
pub name_cut : {A B : Type 0} (f : A → B) (xs : List A) (k : ℕ) (n : B) → option_map f (slice_get xs k) ≡ Some n
    → map f (drop k xs) ≡ n ∷ map f (drop (k + 1) xs)
name_cut f xs k n e = at f xs k n e ∙ ap (λ j. n ∷ map f (drop j xs)) (next k)
  where
    next : (k : ℕ) → suc k ≡ k + 1
    next k = omega arith

    some : {B : Type 0} (x y : B) → Some x ≡ Some y → x ≡ y
    some x y e = cc

    at : {A B : Type 0} (f : A → B) (xs : List A) (k : ℕ) (n : B) → option_map f (slice_get xs k) ≡ Some n → map f (drop k xs) ≡ n ∷ map f (drop (suc k) xs)
    at f [] k n e = cc
    at f (x ∷ xs) zero n e = ap (λ m. m ∷ map f xs) (some (f x) n e)
    at f (x ∷ xs) (suc k) n e = at f xs k n e

pub none_left : {A B : Type 0} (f : A → B) (xs : List A) (k : ℕ) → length xs ≤ k → map f (drop k xs) ≡ []
none_left f [] zero h = refl
none_left f [] (suc k) h = refl
none_left f (x ∷ xs) zero h = absurd (omega (arith, h))
none_left f (x ∷ xs) (suc k) h = none_left f xs k (omega (arith, h))

-- one name more is pushed
pub name_pushed : {A : Type 0} (f : A → Name) (xs : List A) (k : ℕ) (old new : List (Bor (List ℕ))) (n : Bor (List ℕ))
    → option_map f (slice_get xs k) ≡ Some n.now → new ≡ old ++ n ∷ []
    → map (λ m. m.now) new ++ map f (drop (k + 1) xs) ≡ map (λ m. m.now) old ++ map f (drop k xs)
name_pushed f xs k old new n e is =
    ap (λ (ms : List (Bor (List ℕ))). map (λ m. m.now) ms ++ map f (drop (k + 1) xs)) is
    ∙ (ap (λ ms. ms ++ map f (drop (k + 1) xs)) (map-append (λ (m : Bor (List ℕ)). m.now) old (n ∷ []))
    ∙ (append_assoc (map (λ (m : Bor (List ℕ)). m.now) old) (n.now ∷ []) (map f (drop (k + 1) xs))
    ∙ ap (λ ms. map (λ (m : Bor (List ℕ)). m.now) old ++ ms) (sym (name_cut f xs k n.now e))))

-- all names are pushed
pub all_pushed : {A : Type 0} (f : A → Name) (xs : List A) (k : ℕ) (ns : List (Bor (List ℕ))) (all : List Name) → length xs ≤ k
    → map (λ m. m.now) ns ++ map f (drop k xs) ≡ all → map (λ m. m.now) ns ≡ all
all_pushed f xs k ns all h e =
    sym (append-nil (map (λ (m : Bor (List ℕ)). m.now) ns))
    ∙ (ap (λ ms. map (λ (m : Bor (List ℕ)). m.now) ns ++ ms) (sym (none_left f xs k h)) ∙ e)
