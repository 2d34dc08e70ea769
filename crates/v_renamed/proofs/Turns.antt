-- Loops that make a copy of each element of a list.
use Rattle.std.proofs.Common.{◌≡◌, ◌∙◌, ◌<◌, ◌≤◌, ◌+◌, ℕ, ap, sym, List, [], ◌∷◌, ◌++◌, map, length, drop, get_or}
use Rattle.std.proofs.lemmas.List.{append_assoc, append-nil, map-append, drop_more, at_drop_all}

-- what was made of the front, and what is to be made of the rest
module _ {A B C : Type 0} (g : B → C) (h : A → C) where
  pub turn : (xs : List A) (i : ℕ) (d : A) (done new : List B) (made : B) → i < length xs
      → map g done ++ map h (drop i xs) ≡ map h xs → g made ≡ h (get_or xs i d) → new ≡ done ++ made ∷ []
      → map g new ++ map h (drop (i + 1) xs) ≡ map h xs
  turn xs i d done new made lt before is pushed =
      ap (λ ys. map g ys ++ map h (drop (i + 1) xs)) pushed
      ∙ ap (λ zs. zs ++ map h (drop (i + 1) xs)) (map-append g done (made ∷ []))
      ∙ append_assoc (map g done) (g made ∷ []) (map h (drop (i + 1) xs))
      ∙ ap (λ c. map g done ++ c ∷ map h (drop (i + 1) xs)) is
      ∙ ap (λ ys. map g done ++ map h ys) (sym (drop_more xs i d lt))
      ∙ before

  pub end : (xs : List A) (i : ℕ) (made : List B) → length xs ≤ i → map g made ++ map h (drop i xs) ≡ map h xs → map g made ≡ map h xs
  end xs i made le h' = sym (append-nil (map g made)) ∙ sym (at_drop_all (λ ys. map g made ++ map h ys) xs i le) ∙ h'
