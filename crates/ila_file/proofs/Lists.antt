-- A list that is read item by item: what was read so far, and what the rest gives behind it.
use Rattle.std.proofs.Common.{◌≡◌, List, [], ◌∷◌, ◌++◌, Option, Some, None, option_map, refl, sym, ap, ◌∙◌, append_assoc, map}
use Rattle.std.proofs.lemmas.List.{map-append}
use Rattle.model_files.specs.Shape.{with_first}

abbrev pub onto : {A : Type 0} → List A → Option (List A) → Option (List A)
onto xs r = option_map (λ ys. xs ++ ys) r

next : {A : Type 0} (xs : List A) (x : A) (r : Option (List A)) → onto xs (with_first (Some x) r) ≡ onto (xs ++ x ∷ []) r
next xs x None = refl
next xs x (Some ys) = ap Some (sym (append_assoc xs (x ∷ []) ys))

pub onto_next : {A : Type 0} (xs : List A) (x : A) (o : Option A) (r : Option (List A)) → o ≡ Some x → onto xs (with_first o r) ≡ onto (xs ++ x ∷ []) r
onto_next xs x o r e = ap (λ p. onto xs (with_first p r)) e ∙ next xs x r

-- what was read is kept at the end of what was kept before
pub onto_pushed : {A B : Type 0} (f : A → B) (kept new : List A) (x : A) (o : Option B) (r : Option (List B)) → o ≡ Some (f x) → new ≡ kept ++ x ∷ []
    → onto (map f kept) (with_first o r) ≡ onto (map f new) r
onto_pushed f kept new x o r e pushed =
    onto_next (map f kept) (f x) o r e ∙ ap (λ xs. onto xs r) (sym (map-append f kept (x ∷ [])) ∙ ap (map f) (sym pushed))
