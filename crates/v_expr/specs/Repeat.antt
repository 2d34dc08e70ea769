-- Reading something again and again until an end is met.
use Rattle.std.specs.Prelude.{ℕ, zero, suc, List, [], ◌∷◌, length, Option, Some, None}

infixl 10 ◌>>=◌
abbrev pub ◌>>=◌ : {A B : Type 0} → Option A → (A → Option B) → Option B
(Some x) >>= f = f x
None >>= f = None

-- with the value where there is one, else the other
abbrev pub choose : {A B : Type 0} → Option A → (A → B) → B → B
choose (Some x) f y = f x
choose None f y = y

-- what is read from the front of a list, and the rest
abbrev pub Read : Type 0 → Type 0 → Type 0
Read S A = Option (A × List S)

-- Up to an end: the values read so, and what stands behind the end. At most so many turns.
unfoldable pub many : {S A : Type 0} → (List S → Option (List S)) → (List S → Read S A) → ℕ → List S → Read S (List A)
many stop one zero ts = None
many stop one (suc n) ts = choose (stop ts) (λ rest. Some ([], rest)) (do
  x ← one ts
  xs ← many stop one n x.1
  Some (x.0 ∷ xs.0, xs.1))

-- as many turns as there can be
unfoldable pub repeated : {S A : Type 0} → (List S → Option (List S)) → (List S → Read S A) → List S → Read S (List A)
repeated stop one ts = many stop one (suc (length ts)) ts
