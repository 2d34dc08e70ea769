-- What is kept of modules, by their numbers.
use Rattle.std.proofs.Common.{◌≡◌, ◌∙◌, ℕ, zero, suc, ◌+◌, ◌<◌, ◌≤◌, refl, sym, ap, subst, List, [], ◌∷◌, ◌++◌, length, take, get_or, map, Option, Some, None, arith}
use Rattle.std.specs.Prelude.{slice_get}
use Rattle.std.specs.List.{AllZip}
use Rattle.std.proofs.lemmas.List.{take_more, take_all}
use Rattle.verilog_trees.specs.Syntax.{Item}
use Rattle.verilog_meaning.specs.Expression.{Scope}
use Rattle.v_syntax.specs.declared.module.Item.{Item as CodeItem}
use Rattle.v_syntax.specs.Source.{item_of}
use Rattle.v_places.specs.Below.{Spot}
use Rattle.map_memories.specs.declared.kept.Memories.{Memories}
use Rattle.map_memories.specs.Memories.{AreNarrowSpots, IsNarrowSpot, HasMemories, HasMemoriesIf, HaveMemories}

module _ {A B : Type 0} (IsSo : A → B → Type 0) where
  pushed : (xs : List A) (ys : List B) (x : A) (y : B) → AllZip IsSo xs ys → IsSo x y → AllZip IsSo (xs ++ x ∷ []) (ys ++ y ∷ [])
  pushed [] [] x y h k = (k, tt)
  pushed [] (z ∷ ys) x y h k = absurd h
  pushed (w ∷ xs) [] x y h k = absurd h
  pushed (w ∷ xs) (z ∷ ys) x y h k = (h.0, pushed xs ys x y h.1 k)

module _ {X : Type 0} (view : X → Spot) (xs : List X) (i : ℕ) where
  -- those of the modules before a number
  pub kept_turn : (old new : List (Option Memories)) (o : Option Memories) (r y : X) → i < length xs → r ≡ get_or xs i y → new ≡ old ++ o ∷ []
      → HasMemoriesIf (view r) o → HaveMemories (map view (take i xs)) old → HaveMemories (map view (take (i + 1) xs)) new
  kept_turn old new o r y lt is grown h kept =
      let more : map view (take (i + 1) xs) ≡ map view (take i xs) ++ view r ∷ []
      = ap (map view) (take_more xs i y lt ∙ ap (λ z. take i xs ++ z ∷ []) (sym is)) ∙ parted (take i xs) in
      subst (λ os. HaveMemories (map view (take (i + 1) xs)) os) (sym grown)
      (subst (λ ss. HaveMemories ss (old ++ o ∷ [])) (sym more) (pushed HasMemoriesIf (map view (take i xs)) old (view r) o kept h))
    where
      parted : (ys : List X) → map view (ys ++ r ∷ []) ≡ map view ys ++ view r ∷ []
      parted [] = refl
      parted (z ∷ ys) = ap (λ ss. view z ∷ ss) (parted ys)

  pub kept_end : (os : List (Option Memories)) → length xs ≤ i → HaveMemories (map view (take i xs)) os → HaveMemories (map view xs) os
  kept_end os le h = subst (λ ys. HaveMemories (map view ys) os) (take_all i xs le) h

-- what is kept is that of the module with its number
pub is_kept : (xs : List Spot) (os : List (Option Memories)) (k : ℕ) (m : Memories) → HaveMemories xs os → slice_get os k ≡ Some (Some m)
    → (x : Spot) × (slice_get xs k ≡ Some x) × HasMemories x m
is_kept [] [] k m h e = cc
is_kept [] (o ∷ os) k m h e = absurd h
is_kept (x ∷ xs) [] k m h e = absurd h
is_kept (x ∷ xs) (None ∷ os) zero m h e = cc
is_kept (x ∷ xs) (Some t ∷ os) zero m h e = let same : t ≡ m = cc in (x, refl, subst (HasMemories x) same h.0)
is_kept (x ∷ xs) (o ∷ os) (suc k) m h e = is_kept xs os k m h.1 e

-- ---- the same scope and items

module _ (P : Scope → List Item → Type 0) (s t : Scope) (same : s ≡ t) (xs ys : List CodeItem) (items : xs ≡ ys) where
  pub asked_of : P t (map item_of ys) → P s (map item_of xs)
  asked_of h = subst (λ zs. P s (map item_of zs)) (sym items) (subst (λ u. P u (map item_of ys)) (sym same) h)

  pub told_of : P s (map item_of xs) → P t (map item_of ys)
  told_of h = subst (λ u. P u (map item_of ys)) same (subst (λ zs. P s (map item_of zs)) items h)

-- ---- one of the modules

at_place : {X : Type 0} (view : X → Spot) (xs : List X) (i : ℕ) (r d : X) → i < length xs → r ≡ get_or xs i d → slice_get (map view xs) i ≡ Some (view r)
at_place view [] i r d lt is = absurd (omega (arith, lt))
at_place view (x ∷ xs) zero r d lt is = ap (λ y. Some (view y)) (sym is)
at_place view (x ∷ xs) (suc i) r d lt is = at_place view xs i r d (omega (arith, lt)) is

pub narrow_at : {X : Type 0} (view : X → Spot) (xs : List X) (i : ℕ) (r d : X) → i < length xs → r ≡ get_or xs i d → AreNarrowSpots (map view xs) → IsNarrowSpot (view r)
narrow_at view xs i r d lt is narrow = narrow i (view r) (at_place view xs i r d lt is)
