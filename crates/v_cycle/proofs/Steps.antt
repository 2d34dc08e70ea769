-- What the beginnings and the rests of lists are after an element is set.
use Rattle.std.proofs.Common.{◌≡◌, ◌∙◌, ◌<◌, ◌+◌, ◌++◌, ℕ, List, [], ◌∷◌, length, get_or, set, take, drop, sym, ap, arith}
use Rattle.std.proofs.lemmas.List.{take_more, take_more_set, drop-drop, drop-set-lt, get_or-drop}

module _ {X : Type 0} where
  pub set-taken : (xs zs : List X) (k : ℕ) (y d : X) → k < length xs → k < length zs → take k xs ≡ take k zs → y ≡ get_or zs k d
      → take (k + 1) (set xs k y) ≡ take (k + 1) zs
  set-taken xs zs k y d a b front here = take_more_set xs k y a ∙ (λ j. front j ++ here j ∷ []) ∙ sym (take_more zs k d b)

  pub set-left : (xs zs : List X) (k : ℕ) (y : X) → drop k xs ≡ drop k zs → drop (k + 1) (set xs k y) ≡ drop (k + 1) zs
  set-left xs zs k y e = drop-set-lt (k + 1) xs k y (omega arith) ∙ sym (drop-drop 1 k xs) ∙ ap (drop 1) e ∙ drop-drop 1 k zs

  -- an element of what is left
  pub left-at : (xs zs : List X) (k : ℕ) (d : X) → drop k xs ≡ drop k zs → get_or xs k d ≡ get_or zs k d
  left-at xs zs k d e =
      let on : k + 0 ≡ k = omega arith in
      ap (λ j. get_or xs j d) (sym on) ∙ sym (get_or-drop k xs 0 d) ∙ ap (λ l. get_or l 0 d) e ∙ get_or-drop k zs 0 d ∙ ap (λ j. get_or zs j d) on
