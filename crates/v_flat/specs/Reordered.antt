-- The same elements in another order.
use Rattle.std.specs.Prelude.{List, [], ◌∷◌}

pub data AreReordered (A : Type 0) : List A → List A → Type 0 where
  none : AreReordered A [] []
  kept : (x : A) (xs ys : List A) → AreReordered A xs ys → AreReordered A (x ∷ xs) (x ∷ ys)
  exchanged : (x y : A) (xs : List A) → AreReordered A (x ∷ y ∷ xs) (y ∷ x ∷ xs)
  in_turn : (xs ys zs : List A) → AreReordered A xs ys → AreReordered A ys zs → AreReordered A xs zs
