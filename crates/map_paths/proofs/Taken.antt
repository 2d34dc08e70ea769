-- The first elements of a list, while it is gone through.
use Rattle.std.proofs.Common.{◌≡◌, ◌∙◌, ℕ, zero, suc, ◌+◌, ◌<◌, ◌≤◌, refl, ap, sym, List, [], ◌∷◌, ◌++◌, length, get_or, take, map, add-one, arith}

begun_one : {A B : Type 0} (f : A → B) (xs : List A) (i : ℕ) (x d : A) → i < length xs → x ≡ get_or xs i d → map f (take (suc i) xs) ≡ map f (take i xs) ++ f x ∷ []
begun_one f [] i x d l e = absurd (omega (arith, l))
begun_one f (y ∷ xs) zero x d l e = ap (λ z. f z ∷ []) (sym e)
begun_one f (y ∷ xs) (suc i) x d l e = ap (λ ys. f y ∷ ys) (begun_one f xs i x d (omega (arith, l)) e)

-- one more
pub taken_one : {A B : Type 0} (f : A → B) (xs : List A) (i : ℕ) (x d : A) → i < length xs → x ≡ get_or xs i d → map f (take (i + 1) xs) ≡ map f (take i xs) ++ f x ∷ []
taken_one f xs i x d l e = ap (λ n. map f (take n xs)) (add-one i) ∙ begun_one f xs i x d l e

-- all of them
pub taken_all : {A : Type 0} (xs : List A) (i : ℕ) → length xs ≤ i → take i xs ≡ xs
taken_all [] zero l = refl
taken_all [] (suc i) l = refl
taken_all (x ∷ xs) zero l = absurd (omega (arith, l))
taken_all (x ∷ xs) (suc i) l = ap (λ ys. x ∷ ys) (taken_all xs i (omega (arith, l)))

pub taken_length : {A B : Type 0} (f : A → B) (xs : List A) (i : ℕ) → i ≤ length xs → length (map f (take i xs)) ≡ i
taken_length f [] zero l = refl
taken_length f [] (suc i) l = absurd (omega (arith, l))
taken_length f (x ∷ xs) zero l = refl
taken_length f (x ∷ xs) (suc i) l = ap suc (taken_length f xs i (omega (arith, l)))
