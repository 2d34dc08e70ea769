-- Shapes of memories as tests and as equations.
use Rattle.std.proofs.Common.{◌≡◌, ◌∙◌, ℕ, ◌-◌, ◌^◌, ◌⊎◌, inl, inr, refl, ap, true, ◌&&◌, Option, Some, None}
use Rattle.std.specs.Prelude.{◌==◌, IsTrue}
use Rattle.std.proofs.lemmas.Bool.{false≢true, or_left, or_right}
use Rattle.verilog_meaning.specs.Expression.{Object, object_width}
use Rattle.map_memories.specs.Memories.{has_indexes, has_shape}
use Rattle.map_memories.proofs.Tests.{both_true, left_of, right_of, either, tests_same, same_tests}

-- the indexes 0 to 2^a - 1, in either order
abbrev pub AreIndexes : ℕ → Option (ℕ × ℕ) → Type 0
AreIndexes a x = (x ≡ Some (0, 2 ^ a - 1)) ⊎ (x ≡ Some (2 ^ a - 1, 0))

pub indexes_told : (a : ℕ) (x : Option (ℕ × ℕ)) → has_indexes a x ≡ true → AreIndexes a x
indexes_told a None h = absurd (false≢true h)
indexes_told a (Some x) h = by (either (x.0 == 0 && x.1 == 2 ^ a - 1) (x.0 == 2 ^ a - 1 && x.1 == 0) h) where
  by : ((x.0 == 0 && x.1 == 2 ^ a - 1) ≡ true) ⊎ ((x.0 == 2 ^ a - 1 && x.1 == 0) ≡ true) → AreIndexes a (Some x)
  by (inl t) =
      inl (λ i. Some (tests_same x.0 0 (left_of (x.0 == 0) (x.1 == 2 ^ a - 1) t) i, tests_same x.1 (2 ^ a - 1) (right_of (x.0 == 0) (x.1 == 2 ^ a - 1) t) i))
  by (inr t) =
      inr (λ i. Some (tests_same x.0 (2 ^ a - 1) (left_of (x.0 == 2 ^ a - 1) (x.1 == 0) t) i, tests_same x.1 0 (right_of (x.0 == 2 ^ a - 1) (x.1 == 0) t) i))

pub told_indexes : (a : ℕ) (x : Option (ℕ × ℕ)) → AreIndexes a x → has_indexes a x ≡ true
told_indexes a x (inl e) = ap (has_indexes a) e ∙ or_left (0 == 0 && 2 ^ a - 1 == 2 ^ a - 1) (0 == 2 ^ a - 1 && 2 ^ a - 1 == 0) (same_tests (2 ^ a - 1) (2 ^ a - 1) refl)
told_indexes a x (inr e) =
    ap (has_indexes a) e
    ∙ or_right (2 ^ a - 1 == 0 && 0 == 2 ^ a - 1) (2 ^ a - 1 == 2 ^ a - 1 && 0 == 0)
    (both_true (2 ^ a - 1 == 2 ^ a - 1) (0 == 0) (same_tests (2 ^ a - 1) (2 ^ a - 1) refl) refl)

pub shape_told : (a w : ℕ) (o : Object) → IsTrue (has_shape a w o) → AreIndexes a o.addresses × (object_width o ≡ w)
shape_told a w o h = (
  indexes_told a o.addresses (left_of (has_indexes a o.addresses) (object_width o == w) h),
  tests_same (object_width o) w (right_of (has_indexes a o.addresses) (object_width o == w) h),
)

pub told_shape : (a w : ℕ) (o : Object) → AreIndexes a o.addresses → object_width o ≡ w → IsTrue (has_shape a w o)
told_shape a w o h e = both_true (has_indexes a o.addresses) (object_width o == w) (told_indexes a o.addresses h) (same_tests (object_width o) w e)
