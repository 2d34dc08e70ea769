-- Names, tests and values that may be missing.
use Rattle.std.proofs.Common.{◌≡◌, Bool, true, false, ◌⊎◌, inl, inr, refl, Option, Some, None}
use Rattle.std.specs.Prelude.{◌||◌, ◌&&◌, not, IsTrue, option_map, option_and_then}
use Rattle.std.proofs.lemmas.Slice.Eq.{bytes_eq-Decides}
use Rattle.wb_values.specs.Value.{Name, same_name}

-- of a test both answers
pub split : (b : Bool) → (b ≡ true) ⊎ (b ≡ false)
split true = inl refl
split false = inr refl

pub same_is : (m n : Name) → same_name m n ≡ true → m ≡ n
same_is m n e = (bytes_eq-Decides m n).0 e

pub is_same : (n : Name) → same_name n n ≡ true
is_same n = (bytes_eq-Decides n n).1 refl

pub either_true : (a b : Bool) → IsTrue (a || b) → IsTrue a ⊎ IsTrue b
either_true true b t = inl refl
either_true false b t = inr t

pub left_true : (a b : Bool) → IsTrue a → IsTrue (a || b)
left_true true b t = refl
left_true false b t = cc

pub right_true : (a b : Bool) → IsTrue b → IsTrue (a || b)
right_true true b t = refl
right_true false b t = t

pub both_true : (a b : Bool) → IsTrue (a && b) → IsTrue a × IsTrue b
both_true true b t = (refl, t)
both_true false b t = cc

pub first_false : (a b : Bool) → (a || b) ≡ false → a ≡ false
first_false true b e = cc
first_false false b e = refl

pub second_false : (a b : Bool) → (a || b) ≡ false → b ≡ false
second_false true b e = cc
second_false false b e = e

pub not_true : (b : Bool) → ¬ IsTrue b → b ≡ false
not_true true n = absurd (n refl)
not_true false n = refl

pub not_is_false : (b : Bool) → not b ≡ false → b ≡ true
not_is_false true e = refl
not_is_false false e = cc

-- what a mapped and a chained option come from
pub from_map : {A B : Type 0} (f : A → B) (x : Option A) (y : B) → option_map f x ≡ Some y → (a : A) × (x ≡ Some a) × (f a ≡ y)
from_map f None y e = cc
from_map f (Some a) y e = (a, refl, cc)

pub from_chain : {A B : Type 0} (f : A → Option B) (x : Option A) (y : B) → option_and_then f x ≡ Some y → (a : A) × (x ≡ Some a) × (f a ≡ Some y)
from_chain f None y e = cc
from_chain f (Some a) y e = (a, refl, e)
