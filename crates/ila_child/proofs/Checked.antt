-- Lemmas on the test whether there is one value for each name, of its sort.
use Rattle.std.proofs.Common.{◌≡◌, ℕ, zero, suc, ◌+◌, ◌-◌, ◌<◌, Bool, true, false, ◌&&◌, List, [], ◌∷◌, map, length, get_or, take, drop, refl, sym, ap, ◌∙◌, subst, arith}
use Rattle.std.proofs.lemmas.Bool.{and_from, and_right, and_parts, false≢true}
use Rattle.std.proofs.lemmas.List.{drop_more}
use Rattle.wb_values.specs.Value as meaning
use Rattle.wb_values.specs.Value.{Name, Sort, truth, Entries, is_of_sort}
use Rattle.wb_terms.specs.declared.values.Value.{Value}
use Rattle.wb_terms.specs.Environment.{as_value, AreOfSorts}
use Rattle.ila_model.specs.declared.parts.Parts.{Parts}
use Rattle.ila_model.specs.Sorted.{sort_at}
use Rattle.ila_model.specs.Meaning.{model_from}
use Rattle.ila_child.specs.Values.{are_of_sorts}
use Rattle.ila_child.specs.State.{IsStateOf, AreInputsOf}
use Rattle.ila_child.proofs.Starts.{states_table, inputs_table}

pub of_sorts-from : (ns : Entries Sort) (xs : List meaning.Value) → are_of_sorts ns xs ≡ true → AreOfSorts ns xs
of_sorts-from [] [] h = tt
of_sorts-from [] (x ∷ xs) h = absurd (false≢true h)
of_sorts-from (n ∷ ns) [] h = absurd (false≢true h)
of_sorts-from (n ∷ ns) (x ∷ xs) h = let p = and_parts (is_of_sort n.1 x) _ h in (p.0, of_sorts-from ns xs p.1)

pub of_sorts-to : (ns : Entries Sort) (xs : List meaning.Value) → AreOfSorts ns xs → are_of_sorts ns xs ≡ true
of_sorts-to [] [] h = refl
of_sorts-to [] (x ∷ xs) h = absurd h
of_sorts-to (n ∷ ns) [] h = absurd h
of_sorts-to (n ∷ ns) (x ∷ xs) h = and_from _ _ h.0 (of_sorts-to ns xs h.1)

pub of_sorts-count : (ns : Entries Sort) (xs : List meaning.Value) → (length xs ≡ length ns → ⊥) → are_of_sorts ns xs ≡ false
of_sorts-count [] [] h = absurd (h refl)
of_sorts-count [] (x ∷ xs) h = refl
of_sorts-count (n ∷ ns) [] h = refl
of_sorts-count (n ∷ ns) (x ∷ xs) h = and_right _ _ (of_sorts-count ns xs (λ e. h (ap suc e)))

pub of_sorts-turn : (ns : Entries Sort) (xs : List Value) (first count k : ℕ) (d : Value) → k < length xs → k < count → first + k < length ns → are_of_sorts (take (count - k) (drop (first + k) ns)) (map as_value (drop k xs)) ≡ (is_of_sort (sort_at ns (first + k)) (as_value (get_or xs k d)) && are_of_sorts (take (count - (k + 1)) (drop (first + (k + 1)) ns)) (map as_value (drop (k + 1) xs)))
of_sorts-turn ns xs first count k d h c b =
    let m = count - (k + 1) in
    let e : count - k ≡ suc m = omega arith in
    let f : first + k + 1 ≡ first + (k + 1) = omega arith in
    ap (λ j. are_of_sorts (take j (drop (first + k) ns)) (map as_value (drop k xs))) e
    ∙ ap (λ r. are_of_sorts (take (suc m) r) (map as_value (drop k xs))) (drop_more ns (first + k) ([], truth) b)
    ∙ ap (λ ys. are_of_sorts (take (suc m) (get_or ns (first + k) ([], truth) ∷ drop (first + k + 1) ns)) (map as_value ys)) (drop_more xs k d h)
    ∙ ap (λ j. is_of_sort (sort_at ns (first + k)) (as_value (get_or xs k d)) && are_of_sorts (take m (drop j ns)) (map as_value (drop (k + 1) xs))) f

-- as many names as there are values
pub of_sorts-taken : (ns : Entries Sort) (n : ℕ) (xs : List meaning.Value) → AreOfSorts (take n ns) xs → AreOfSorts (take (length xs) ns) xs
of_sorts-taken ns zero [] h = tt
of_sorts-taken ns zero (x ∷ xs) h = absurd h
of_sorts-taken [] (suc n) [] h = tt
of_sorts-taken [] (suc n) (x ∷ xs) h = absurd h
of_sorts-taken (m ∷ ns) (suc n) [] h = absurd h
of_sorts-taken (m ∷ ns) (suc n) (x ∷ xs) h = (h.0, of_sorts-taken ns n xs h.1)

pub states_checked : (p : Parts) (name : Name) (xs : List meaning.Value) (n : ℕ) (b : Bool) → n ≡ length p.initial_values.items → b ≡ are_of_sorts (take n (drop 0 p.terms.names)) xs → (b ≡ true → IsStateOf (model_from name p) xs) × (IsStateOf (model_from name p) xs → b ≡ true)
states_checked p name xs n b e t =
    let table = states_table p.terms.names p.initial_values.items in
    let same = t ∙ ap (λ k. are_of_sorts (take k p.terms.names) xs) e in (
      λ h. subst (λ r. AreOfSorts r xs) (sym table) (of_sorts-from _ xs (sym same ∙ h)),
      λ h. same ∙ of_sorts-to _ xs (subst (λ r. AreOfSorts r xs) table h),
    )

pub inputs_checked : (p : Parts) (name : Name) (xs : List meaning.Value) (n m : ℕ) (b : Bool) → n ≡ length p.initial_values.items → m ≡ p.inputs → b ≡ are_of_sorts (take m (drop n p.terms.names)) xs → (b ≡ true → AreInputsOf (model_from name p) xs) × (AreInputsOf (model_from name p) xs → b ≡ true)
inputs_checked p name xs n m b e f t =
    let table = inputs_table p.inputs (drop (length p.initial_values.items) p.terms.names) in
    let same = t ∙ ap (λ k. are_of_sorts (take m (drop k p.terms.names)) xs) e ∙ ap (λ k. are_of_sorts (take k (drop (length p.initial_values.items) p.terms.names)) xs) f in (
      λ h. subst (λ r. AreOfSorts r xs) (sym table) (of_sorts-from _ xs (sym same ∙ h)),
      λ h. same ∙ of_sorts-to _ xs (subst (λ r. AreOfSorts r xs) table h),
    )
