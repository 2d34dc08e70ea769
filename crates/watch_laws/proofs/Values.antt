-- Values are told apart, and names are.
use Rattle.std.proofs.Common.{◌≡◌, ◌≢◌, ◌∙◌, ℕ, Bool, true, false, List, ◌⊎◌, inl, inr, refl, sym, ap, subst, arith}
use Rattle.std.proofs.lemmas.Bool.{false≢true, cases_eq}
use Rattle.std.proofs.lemmas.Slice.Eq.{bytes_eq-Decides}
use Rattle.wb_values.specs.Value.{Name, same_name, Value, truth_value, number, words}

pub is_name : (a b : Name) → same_name a b ≡ true → a ≡ b
is_name a b e = (bytes_eq-Decides a b).0 e

itself : (a : Name) → same_name a a ≡ true
itself a = (bytes_eq-Decides a a).1 refl

lists_told : (xs ys : List ℕ) (t : Bool) → same_name xs ys ≡ t → (words xs ≡ words ys) ⊎ (words xs ≢ words ys)
lists_told xs ys true e = inl (ap words (is_name xs ys e))
lists_told xs ys false e = inr (λ f. let g : xs ≡ ys = cc in false≢true (sym e ∙ subst (λ zs. same_name xs zs ≡ true) g (itself xs)))

truths_told : (a b : Bool) → (truth_value a ≡ truth_value b) ⊎ (truth_value a ≢ truth_value b)
truths_told true true = inl refl
truths_told true false = inr (λ e. let f : true ≡ false = cc in false≢true (sym f))
truths_told false true = inr (λ e. let f : false ≡ true = cc in false≢true f)
truths_told false false = inl refl

numbers_told : (m n : ℕ) → (number m ≡ number n) ⊎ (number m ≢ number n)
numbers_told m n = elim (cases_eq m n) as (λ _. (number m ≡ number n) ⊎ (number m ≢ number n)) [
  | inl e ↦ inl (ap number e)
  | inr f ↦ inr (λ e. let g : m ≡ n = cc in f g)
]

-- Two values are one, or two.
pub values_told : (x y : Value) → (x ≡ y) ⊎ (x ≢ y)
values_told (truth_value a) (truth_value b) = truths_told a b
values_told (truth_value a) (number n) = inr (λ e. cc)
values_told (truth_value a) (words ys) = inr (λ e. cc)
values_told (number m) (truth_value b) = inr (λ e. cc)
values_told (number m) (number n) = numbers_told m n
values_told (number m) (words ys) = inr (λ e. cc)
values_told (words xs) (truth_value b) = inr (λ e. cc)
values_told (words xs) (number n) = inr (λ e. cc)
values_told (words xs) (words ys) = lists_told xs ys (same_name xs ys) refl
