-- Whether an item of a list is found.
use Rattle.std.proofs.Common.{◌≡◌, ◌∙◌, ◌+◌, ℕ, suc, refl, ap, arith, nat_lt, position, Bool, true, false, cond, not, ◌||◌, List, [], ◌∷◌, map, length, Some, None, is_some}
use Rattle.std.specs.List.{list_any, position_or_len}
use Rattle.std.proofs.lemmas.Bool.Decides.{nat_tests}

some_if_so : {A : Type 0} (b : Bool) (x : A) → is_some (cond b (Some x) None) ≡ b
some_if_so true x = refl
some_if_so false x = refl

zero_lt : (n : ℕ) → nat_lt 0 (suc n) ≡ true
zero_lt n = grind (arith, nat_tests)

suc_lt : (a b : ℕ) → nat_lt (1 + a) (suc b) ≡ nat_lt a b
suc_lt a b = grind (arith, nat_tests)

there : {A : Type 0} (p : A → Bool) (xs : List A) → nat_lt (position_or_len p xs) (length xs) ≡ list_any p xs
there p [] = refl
there p (x ∷ xs) = by_first (p x) (there p xs)
  where
    by_first : (b : Bool) → nat_lt (position_or_len p xs) (length xs) ≡ list_any p xs → nat_lt (cond (not b) (1 + position_or_len p xs) 0) (suc (length xs)) ≡ (b || list_any p xs)
    by_first true h = zero_lt (length xs)
    by_first false h = suc_lt (position_or_len p xs) (length xs) ∙ h

mapped : {A B : Type 0} (p : B → Bool) (f : A → B) (xs : List A) → list_any (λ x. p (f x)) xs ≡ list_any p (map f xs)
mapped p f [] = refl
mapped p f (x ∷ xs) = ap (λ b. p (f x) || b) (mapped p f xs)

pub position_so : {A B : Type 0} (p : B → Bool) (f : A → B) (xs : List A) → is_some (position (λ x. p (f x)) xs) ≡ list_any p (map f xs)
position_so p f xs = some_if_so (nat_lt (position_or_len (λ x. p (f x)) xs) (length xs)) (position_or_len (λ x. p (f x)) xs) ∙ there (λ x. p (f x)) xs ∙ mapped p f xs
