-- A list that is read item by item: what was read so far, and what the rest gives behind it.
use Rattle.std.proofs.Common.{◌≡◌, List, [], ◌∷◌, ◌++◌, Option, Some, None, option_map, refl, sym, ap, ◌∙◌, append_assoc, map}
use Rattle.std.proofs.lemmas.List.{append-nil, map-append}
use Rattle.model_files.specs.Shape.{with_first}

abbrev pub onto : {A : Type 0} → List A → Option (List A) → Option (List A)
onto xs r = option_map (λ ys. xs ++ ys) r

pub onto_nothing : {A : Type 0} (r : Option (List A)) → r ≡ onto [] r
onto_nothing None = refl
onto_nothing (Some ys) = refl

pub onto_end : {A : Type 0} (xs : List A) → onto xs (Some []) ≡ Some xs
onto_end xs = ap Some (append-nil xs)

next : {A : Type 0} (xs : List A) (x : A) (r : Option (List A)) → onto xs (with_first (Some x) r) ≡ onto (xs ++ x ∷ []) r
next xs x None = refl
next xs x (Some ys) = ap Some (sym (append_assoc xs (x ∷ []) ys))

pub onto_next : {A : Type 0} (xs : List A) (x : A) (o : Option A) (r : Option (List A)) → o ≡ Some x → onto xs (with_first o r) ≡ onto (xs ++ x ∷ []) r
onto_next xs x o r e = ap (λ p. onto xs (with_first p r)) e ∙ next xs x r

pub onto_refused : {A : Type 0} (xs : List A) (o : Option A) (r : Option (List A)) → o ≡ None → onto xs (with_first o r) ≡ None
onto_refused xs o r e = ap (λ p. onto xs (with_first p r)) e

-- what was read is kept at the end of what was kept before
pub onto_pushed : {A B : Type 0} (f : A → B) (kept new : List A) (x : A) (o : Option B) (r : Option (List B)) → o ≡ Some (f x) → new ≡ kept ++ x ∷ []
    → onto (map f kept) (with_first o r) ≡ onto (map f new) r
onto_pushed f kept new x o r e pushed =
    onto_next (map f kept) (f x) o r e ∙ ap (λ xs. onto xs r) (sym (map-append f kept (x ∷ [])) ∙ ap (map f) (sym pushed))
