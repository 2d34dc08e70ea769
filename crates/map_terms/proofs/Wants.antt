-- Names of a model with their sorts, one after the other.
use Rattle.std.proofs.Common.{◌≡◌, ◌∙◌, ℕ, zero, suc, ◌+◌, ◌≤◌, ap, sym, List, [], ◌∷◌, ◌++◌, map, take, length, Some, arith}
use Rattle.std.specs.Prelude.{slice_get, option_map}
use Rattle.std.proofs.lemmas.List.{map-append, take_all, length-map}
use Rattle.wb_values.specs.Value.{Name, Sort}

module _ {A B : Type 0} (called : A → Name) (sort : A → Sort) (view : B → Name × Sort) where
  abbrev both : A → Name × Sort
  both d = (called d, sort d)

  one_pair : (m n : Name) (t r : Sort) → Some m ≡ Some n → Some t ≡ Some r → ◌≡◌ {A = Name × Sort} (m, t) (n, r)
  one_pair m n t r e f = let g : m ≡ n = cc in let h : t ≡ r = cc in λ i. (g i, h i)

  more : (ds : List A) (i : ℕ) (n : Name) (t : Sort) → option_map called (slice_get ds i) ≡ Some n → option_map sort (slice_get ds i) ≡ Some t
      → take (suc i) (map both ds) ≡ take i (map both ds) ++ (n, t) ∷ []
  more [] i n t e f = absurd cc
  more (d ∷ ds) zero n t e f = ap (λ p. p ∷ []) (one_pair (called d) n (sort d) t e f)
  more (d ∷ ds) (suc i) n t e f = ap (λ xs. both d ∷ xs) (more ds i n t e f)

  pub want_turn : (ds : List A) (i : ℕ) (n : Name) (t : Sort) (old new : List B) (w : B) → option_map called (slice_get ds i) ≡ Some n
      → option_map sort (slice_get ds i) ≡ Some t → view w ≡ (n, t) → new ≡ old ++ w ∷ [] → map view old ≡ take i (map both ds)
      → map view new ≡ take (i + 1) (map both ds)
  want_turn ds i n t old new w e f is added h =
      let next : suc i ≡ i + 1 = omega arith in
      ap (map view) added ∙ map-append view old (w ∷ []) ∙ (λ j. h j ++ is j ∷ []) ∙ sym (more ds i n t e f) ∙ ap (λ k. take k (map both ds)) next

  pub all_wanted : (ds : List A) (i : ℕ) (xs : List B) → length ds ≤ i → map view xs ≡ take i (map both ds) → map view xs ≡ map both ds
  all_wanted ds i xs l h = h ∙ take_all i (map both ds) (let same = length-map ds both in omega (arith, l, same))
