-- What is told of one module, and of the module with a number.
use Rattle.std.proofs.Common.{◌≡◌, ◌∙◌, ℕ, zero, suc, refl, sym, ap, subst, Bool, true, false, true≢false, List, [], ◌∷◌, ◌<◌, ◌≤◌, length, get_or, map, Bor, Option, Some, None, arith}
use Rattle.std.specs.Prelude.{◌↔◌, ◌&&◌, slice_get, IsTrue, MatchOption, HoldsAt}
use Rattle.wb_values.specs.Value.{Name}
use Rattle.v_value.specs.Scope.{scope_at}
use Rattle.v_hier.specs.Tables.{has_name}
use Rattle.v_places.specs.Below.{Spot}
use Rattle.map_paths.specs.Located.{scope_there}
use Rattle.map_memories.specs.declared.kept.Memories.{Memories}
use Rattle.map_memories.specs.Memories.{has_shape, HasMemories, IsMemoryIn, IsMemoryThere}
use Rattle.map_memories.proofs.Tests.{both_true, left_of, right_of}

module _ (x : Spot) (m : Memories) (n : Name) (a w : ℕ) (h : HasMemories x m) where
  same_shape : has_shape a w (scope_at m.scope n) ≡ has_shape a w (scope_there x n)
  same_shape = ap (λ s. has_shape a w (s n)) h.scope

  pub memory_told : (r : Bool) → r ≡ (has_shape a w (scope_at m.scope n) && has_name m.assigned n) → IsTrue r ↔ IsMemoryIn x n a w
  memory_told r e = (
    (λ t. let both = sym e ∙ t in (
      sym same_shape ∙ left_of (has_shape a w (scope_at m.scope n)) (has_name m.assigned n) both,
      (h.assigned n).0 (right_of (has_shape a w (scope_at m.scope n)) (has_name m.assigned n) both),
    )),
    (λ k. e ∙ both_true (has_shape a w (scope_at m.scope n)) (has_name m.assigned n) (same_shape ∙ k.0) ((h.assigned n).1 k.1)),
  )

pub there_told : (o : Option Spot) (x : Spot) (n : Name) (a w : ℕ) (b : Bool) → o ≡ Some x → (IsTrue b ↔ IsMemoryIn x n a w) → IsTrue b ↔ IsMemoryThere o n a w
there_told o x n a w b e told = subst (λ p. IsTrue b ↔ IsMemoryThere p n a w) (sym e) told

pub nowhere_told : (o : Option Spot) (n : Name) (a w : ℕ) → o ≡ None → IsTrue false ↔ IsMemoryThere o n a w
nowhere_told o n a w e = subst (λ p. IsTrue false ↔ IsMemoryThere p n a w) (sym e) ((λ t. true≢false (sym t)), (λ k. absurd k))

-- views of what is at a number
pub viewed_some : {X : Type 0} (view : X → Spot) (xs : List X) (k : ℕ) (x : X) → slice_get xs k ≡ Some x → slice_get (map view xs) k ≡ Some (view x)
viewed_some view [] k x e = cc
viewed_some view (y ∷ xs) zero x e = let same : y ≡ x = cc in ap (λ z. Some (view z)) same
viewed_some view (y ∷ xs) (suc k) x e = viewed_some view xs k x e

pub viewed_none : {X : Type 0} (view : X → Spot) (xs : List X) (k : ℕ) → slice_get xs k ≡ None → slice_get (map view xs) k ≡ None
viewed_none view [] k e = refl
viewed_none view (y ∷ xs) zero e = cc
viewed_none view (y ∷ xs) (suc k) e = viewed_none view xs k e

pub joined : {A B C : Type 0} → (A ↔ B) → (B ↔ C) → A ↔ C
joined f g = ((λ a. g.0 (f.0 a)), (λ c. f.1 (g.1 c)))

-- ---- tests one after the other

pub then_both : (r s t : Bool) → s ≡ true → r ≡ t → r ≡ (s && t)
then_both r true t e h = h
then_both r false t e h = absurd (true≢false (sym e))

pub else_both : (r s t : Bool) → r ≡ s → r ≡ false → r ≡ (s && t)
else_both r s t h f = f ∙ sym (ap (λ b. b && t) (sym h ∙ f))

-- ---- what is found by a number

module _ {X : Type 0} (xs : List X) (j : ℕ) (o : Option (Bor X)) (m : MatchOption o (length xs ≤ j) (λ y. (j < length xs) × HoldsAt (λ z. y.now ≡ z) xs j)) where
  at_own : (ys : List X) (i : ℕ) (r d : X) → i < length ys → r ≡ get_or ys i d → slice_get ys i ≡ Some r
  at_own [] i r d lt is = absurd (omega (arith, lt))
  at_own (y ∷ ys) zero r d lt is = ap Some (sym is)
  at_own (y ∷ ys) (suc i) r d lt is = at_own ys i r d (omega (arith, lt)) is

  pub found_own : (x : Bor X) → o ≡ Some x → slice_get xs j ≡ Some x.now
  found_own x e = at (subst (λ (q : Option (Bor X)). MatchOption q (length xs ≤ j) (λ y. (j < length xs) × HoldsAt (λ z. y.now ≡ z) xs j)) e m)
    where
      at : (j < length xs) × HoldsAt (λ z. x.now ≡ z) xs j → slice_get xs j ≡ Some x.now
      at g = at_own xs j x.now x.now g.0 (g.1 x.now)

  past : (ys : List X) (i : ℕ) → length ys ≤ i → slice_get ys i ≡ None
  past [] i le = refl
  past (y ∷ ys) zero le = absurd (omega (arith, le))
  past (y ∷ ys) (suc i) le = past ys i (omega (arith, le))

  pub found_none : o ≡ None → slice_get xs j ≡ None
  found_none e = past xs j (subst (λ (q : Option (Bor X)). MatchOption q (length xs ≤ j) (λ y. (j < length xs) × HoldsAt (λ z. y.now ≡ z) xs j)) e m)
