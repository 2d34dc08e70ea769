-- Names that are chosen, one after the other.
use Rattle.std.proofs.Common.{◌≡◌, ◌∙◌, ℕ, ◌+◌, ◌<◌, Bool, true, false, cond, Bor, List, [], ◌∷◌, ◌++◌, drop, get_or, length, map, refl, ap, sym}
use Rattle.std.proofs.lemmas.List.{append_assoc, drop_more}
use Rattle.wb_values.specs.Value.{Name}
use Rattle.v_elab.specs.Names.{chosen, left_out}

chosen_step : (f : Name → Bool) (n : Name) (ns : List Name) → chosen f (n ∷ []) ++ chosen f ns ≡ chosen f (n ∷ ns)
chosen_step f n ns = by (f n)
  where
    by : (t : Bool) → cond t (n ∷ []) [] ++ chosen f ns ≡ cond t (n ∷ chosen f ns) (chosen f ns)
    by true = refl
    by false = refl

left_step : (f : Name → Bool) (n : Name) (ns : List Name) → left_out f (n ∷ []) ++ left_out f ns ≡ left_out f (n ∷ ns)
left_step f n ns = by (f n)
  where
    by : (t : Bool) → cond t [] (n ∷ []) ++ left_out f ns ≡ cond t (left_out f ns) (n ∷ left_out f ns)
    by true = refl
    by false = refl

abbrev lent : List (Bor Name) → List Name
lent ns = map (λ n. n.now) ns

pub chosen_turn : (f : Name → Bool) (list : List (Bor Name)) (i : ℕ) (d : Bor Name) (now new whole : List Name) → i < length list
    → now ++ chosen f (lent (drop i list)) ≡ whole → new ≡ now ++ chosen f ((get_or list i d).now ∷ []) → new ++ chosen f (lent (drop (i + 1) list)) ≡ whole
chosen_turn f list i d now new whole lt h e =
    ap (λ ms. ms ++ chosen f (lent (drop (i + 1) list))) e
    ∙ append_assoc now (chosen f ((get_or list i d).now ∷ [])) (chosen f (lent (drop (i + 1) list)))
    ∙ ap (λ ms. now ++ ms) (chosen_step f (get_or list i d).now (lent (drop (i + 1) list)))
    ∙ ap (λ ys. now ++ chosen f (lent ys)) (sym (drop_more list i d lt)) ∙ h

pub left_turn : (f : Name → Bool) (list : List (Bor Name)) (i : ℕ) (d : Bor Name) (now new whole : List Name) → i < length list
    → now ++ left_out f (lent (drop i list)) ≡ whole → new ≡ now ++ left_out f ((get_or list i d).now ∷ []) → new ++ left_out f (lent (drop (i + 1) list)) ≡ whole
left_turn f list i d now new whole lt h e =
    ap (λ ms. ms ++ left_out f (lent (drop (i + 1) list))) e
    ∙ append_assoc now (left_out f ((get_or list i d).now ∷ [])) (left_out f (lent (drop (i + 1) list)))
    ∙ ap (λ ms. now ++ ms) (left_step f (get_or list i d).now (lent (drop (i + 1) list)))
    ∙ ap (λ ys. now ++ left_out f (lent ys)) (sym (drop_more list i d lt)) ∙ h
