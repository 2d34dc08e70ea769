-- The first of a list of which something is so, with its number.
use Rattle.std.proofs.Common.{◌≡◌, ℕ, zero, suc, ◌+◌, ◌<◌, refl, subst, List, [], ◌∷◌, Option, Some, None, arith}
use Rattle.std.specs.Prelude.{slice_get}
use Rattle.v_places.proofs.Spots.{same_some}

module _ {A R : Type 0} (index : R → ℕ) (Has : A → R → Type 0) (IsGood : A → Type 0) where
  -- The number of the first of these is i.
  abbrev pub Found : ℕ → List A → Option R → Type 0
  Found i xs None = (k : ℕ) (x : A) → slice_get xs k ≡ Some x → IsGood x
  Found i xs (Some r) =
      (j : ℕ) × (index r ≡ i + j) × ((x : A) × (slice_get xs j ≡ Some x) × Has x r) × ((k : ℕ) (x : A) → k < j → slice_get xs k ≡ Some x → IsGood x)

  pub none_left : (i : ℕ) → Found i [] None
  none_left i k x e = cc

  pub here : (i : ℕ) (x : A) (xs : List A) (r : R) → index r ≡ i → Has x r → Found i (x ∷ xs) (Some r)
  here i x xs r e h = (0, omega (arith, e), (x, refl, h), λ k y l g. absurd (omega (arith, l)))

  good_first : (x : A) (xs : List A) (k : ℕ) (y : A) → IsGood x → ((j : ℕ) → k ≡ suc j → slice_get xs j ≡ Some y → IsGood y) → slice_get (x ∷ xs) k ≡ Some y → IsGood y
  good_first x xs zero y h rest e = subst IsGood (same_some x y e) h
  good_first x xs (suc k) y h rest e = rest k refl e

  pub past : (i : ℕ) (x : A) (xs : List A) (o : Option R) → IsGood x → Found (i + 1) xs o → Found i (x ∷ xs) o
  past i x xs None h rest = λ k y e. good_first x xs k y h (λ j same g. rest j y g) e
  past i x xs (Some r) h rest =
      let number : index r ≡ (i + 1) + rest.0 = rest.1 in (
        suc rest.0,
        omega (arith, number),
        rest.2,
        λ k y l e. good_first x xs k y h (λ j same g. rest.3 j y (omega (arith, l, same)) g) e,
      )

  -- where the first has the number 0
  pub told_first : (xs : List A) (r : R) → Found 0 xs (Some r)
      → ((x : A) × (slice_get xs (index r) ≡ Some x) × Has x r) × ((k : ℕ) (x : A) → k < index r → slice_get xs k ≡ Some x → IsGood x)
  told_first xs r f =
      let number : f.0 ≡ index r = (let e : index r ≡ 0 + f.0 = f.1 in omega (arith, e)) in (
        (f.2.0, subst (λ j. slice_get xs j ≡ Some f.2.0) number f.2.1, f.2.2),
        λ k x l e. f.3 k x (omega (arith, l, number)) e,
      )
