-- Lemmas on the values with which states begin.
use Rattle.std.proofs.Common.{◌≡◌, ℕ, zero, suc, ◌^◌, ◌+◌, ◌<◌, true, false, drop, subst, arith, List, [], ◌∷◌, length, get_or, replicate, slice_get, option_map, Option, Some, None, refl, ap, ◌∙◌}
use Rattle.std.proofs.lemmas.Bool.{and_from, and_parts, eq-eqb, lt-ltb, false≢true}
use Rattle.std.proofs.lemmas.List.{length-replicate, get_or-drop}
use Rattle.std.proofs.lemmas.Nat.{pow_pos}
use Rattle.wb_values.specs.Value as meaning
use Rattle.wb_values.specs.Value.{Sort, truth, word, memory, Entries, HasSort, all_below, is_of_sort}
use Rattle.model_meaning.specs.Model.{StateDeclaration, value_or}
use Rattle.wb_terms.specs.declared.values.Value.{Value}
use Rattle.wb_terms.specs.Environment.{as_value, AreOfSorts}
use Rattle.term_evaluation.specs.Slots.{zero_of as zero_in}
use Rattle.ila_model.specs.Sorted.{are_states, is_initial, is_top_initial, is_private_initial, sort_at}
use Rattle.ila_model.specs.Meaning.{declared_states, zero_of}
use Rattle.ila_child.specs.Values.{beginning}
use Rattle.ila_child.specs.State.{sorts_of_states, initial_values}

-- the value with which a state begins
pub initial-at : (ss : List StateDeclaration) (k : ℕ) (i : Option meaning.Value) (sort : Sort) (d : meaning.Value) → option_map (λ (s : StateDeclaration). s.init) (slice_get ss k) ≡ Some i → option_map (λ (s : StateDeclaration). s.sort) (slice_get ss k) ≡ Some sort → get_or (initial_values ss) k d ≡ value_or i (zero_of sort)
initial-at [] k i sort d e f = absurd (cc)
initial-at (s ∷ ss) zero i sort d e f =
    let stated : s.init ≡ i = cc in
    let same : s.sort ≡ sort = cc in
    ap (λ o. value_or o (zero_of s.sort)) stated ∙ ap (λ t. value_or i (zero_of t)) same
initial-at (s ∷ ss) (suc k) i sort d e f = initial-at ss k i sort d e f

pub initial_sort-at : (ss : List StateDeclaration) (k : ℕ) (i : Option meaning.Value) (sort : Sort) → AreOfSorts (sorts_of_states ss) (initial_values ss) → option_map (λ (s : StateDeclaration). s.init) (slice_get ss k) ≡ Some i → option_map (λ (s : StateDeclaration). s.sort) (slice_get ss k) ≡ Some sort → HasSort (value_or i (zero_of sort)) sort
initial_sort-at [] k i sort a e f = absurd (cc)
initial_sort-at (s ∷ ss) zero i sort a e f =
    let stated : s.init ≡ i = cc in
    let same : s.sort ≡ sort = cc in
    subst (λ t. HasSort (value_or i (zero_of t)) t) same (subst (λ o. HasSort (value_or o (zero_of s.sort)) s.sort) stated a.0)
initial_sort-at (s ∷ ss) (suc k) i sort a e f = initial_sort-at ss k i sort a.1 e f

-- the zeros of shared values are those of models
pub same_zero : (s : Sort) → zero_in s ≡ zero_of s
same_zero truth = refl
same_zero (word w) = refl
same_zero (memory a d) = refl

zeros_below : (d n : ℕ) → all_below d (replicate n 0) ≡ true
zeros_below d zero = refl
zeros_below d (suc n) = and_from _ _ (lt-ltb 0 (2 ^ d) (pow_pos d)) (zeros_below d n)

pub zero_has_sort : (s : Sort) → is_of_sort s (zero_of s) ≡ true
zero_has_sort truth = refl
zero_has_sort (word w) = lt-ltb 0 (2 ^ w) (pow_pos w)
zero_has_sort (memory a d) =
    and_from _ _ (eq-eqb (length (replicate (2 ^ a) 0)) (2 ^ a) (length-replicate (2 ^ a) 0)) (zeros_below d (2 ^ a))

initial_has_sort : (s : Sort) (i : Option Value) → is_top_initial s i ≡ true → is_of_sort s (value_or (option_map as_value i) (zero_of s)) ≡ true
initial_has_sort s None h = zero_has_sort s
initial_has_sort truth (Some x) h = h
initial_has_sort (word w) (Some x) h = h
initial_has_sort (memory a d) (Some x) h = absurd (false≢true h)

-- a private state begins with a value of its sort
pub private_has_sort : (s : Sort) (i : Option Value) → is_private_initial s i ≡ true → is_of_sort s (beginning s i) ≡ true
private_has_sort truth None h = absurd (false≢true h)
private_has_sort (word w) None h = absurd (false≢true h)
private_has_sort (memory a d) None h = absurd (false≢true h)
private_has_sort truth (Some x) h = h
private_has_sort (word w) (Some x) h = h
private_has_sort (memory a d) (Some x) h = absurd (false≢true h)

-- the values with which states begin are of their sorts
pub initial_sorts : (ns : Entries Sort) (is : List (Option Value)) → are_states false ns is ≡ true → AreOfSorts (sorts_of_states (declared_states ns is)) (initial_values (declared_states ns is))
initial_sorts [] is h = tt
initial_sorts (n ∷ ns) [] h = tt
initial_sorts (n ∷ ns) (i ∷ is) h =
    let p = and_parts (is_initial false n.1 i) (are_states false ns is) h in
    (initial_has_sort n.1 i p.0, initial_sorts ns is p.1)

-- the initial value of a private state
pub private-at : (ns : Entries Sort) (is : List (Option Value)) (first k : ℕ) (d : Option Value) → are_states true (drop first ns) is ≡ true → k < length is → first + k < length ns → is_private_initial (sort_at ns (first + k)) (get_or is k d) ≡ true
private-at ns is first k d h b w =
    subst (λ (e : List ℕ × Sort). is_private_initial e.1 (get_or is k d) ≡ true) (get_or-drop first ns k ([], truth)) (private_there (drop first ns) is k d h b)
  where
    private_there : (ms : Entries Sort) (js : List (Option Value)) (j : ℕ) (x : Option Value) → are_states true ms js ≡ true → j < length js → is_private_initial (sort_at ms j) (get_or js j x) ≡ true
    private_there ms [] j x s l = absurd (omega arith)
    private_there [] (i ∷ js) j x s l = absurd (false≢true s)
    private_there (m ∷ ms) (i ∷ js) zero x s l = (and_parts (is_private_initial m.1 i) _ s).0
    private_there (m ∷ ms) (i ∷ js) (suc j) x s l = private_there ms js j x (and_parts (is_private_initial m.1 i) _ s).1 (omega arith)
