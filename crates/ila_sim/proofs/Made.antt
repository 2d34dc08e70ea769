-- Lemmas on what settings make of values: values of the same sorts, and what they mean under their names.
use Rattle.std.proofs.Common.{◌≡◌, ℕ, zero, suc, ◌^◌, ◌+◌, ◌<◌, Bool, true, false, cond, List, [], ◌∷◌, map, length, get_or, set, drop, Option, Some, None, option_map, slice_get, refl, sym, ap, ◌∙◌, subst, arith}
use Rattle.std.specs.Prelude.{◌==◌, nat_lt}
use Rattle.std.proofs.Math.Path.{fun_ext}
use Rattle.std.proofs.lemmas.Bool.{and_from, and_parts, false≢true}
use Rattle.std.proofs.lemmas.List.{length-set, drop_more}
use Rattle.wb_values.specs.Value.{Name, same_name, Sort, truth, word, memory, Value, truth_value, number, words, all_below, is_of_sort, Entries, entry_of, value_or_zero, valuation_of, with_value}
use Rattle.model_meaning.specs.Model.{StateDeclaration, InputDeclaration, Model, states_of, state_named, value_or}
use Rattle.scripts.specs.Script.{Settable, settable, settables_of, zero_value, with_word, with_sets, initial_or_zero, first_value, initial_state, zero_input, inputs_of}
use Rattle.term_evaluation.specs.Slots.{with_number}
use Rattle.wb_terms.specs.declared.values.Value as code
use Rattle.wb_terms.specs.Environment.{as_value, AreOfSorts, values_by_name}
use Rattle.ila_model.specs.Meaning.{zero_of}
use Rattle.ila_child.specs.State.{sorts_of_states, sorts_of_inputs, IsStateOf, AreInputsOf, state_valuation, input_valuation, initial_values}
use Rattle.ila_child.proofs.Initial.{zero_has_sort}
use Rattle.ila_model.proofs.Names.{same-from, same-refl}
use Rattle.ila_sim.specs.declared.set.Set.{Set}
use Rattle.ila_sim.specs.Lines.{sets_view}
use Rattle.ila_sim.specs.Names.{are_apart}
use Rattle.ila_sim.specs.Places.{called_at}
use Rattle.ila_sim.specs.Outcomes.{with_set, with_all, zero_values, settables_by}
use Rattle.ila_sim.specs.Sets.{suits, suits_at, is_right, are_right}
use Rattle.ila_sim.proofs.Apart.{absent, turned, left_part, right_part}
use Rattle.ila_sim.proofs.Declared.{named_as, states_by, inputs_by}

-- ---- words set in shared values

pub same_with_word : (v : Value) (k x : ℕ) → with_number v k x ≡ with_word v k x
same_with_word (truth_value b) k x = refl
same_with_word (number n) k x = refl
same_with_word (words ws) k x = refl

pub set_turn : (q : List Value) (sets : List Set) (k : ℕ) (s : Set) (r : List Value) → k < length sets → s ≡ get_or sets k s
    → r ≡ set q s.place (with_number (get_or q s.place (number 0)) s.word s.value) → with_all r (drop (k + 1) sets) ≡ with_all q (drop k sets)
set_turn q sets k s r h e f =
    ap (λ (xs : List Value). with_all xs (drop (k + 1) sets)) (f ∙ ap (set q s.place) (same_with_word (get_or q s.place (number 0)) s.word s.value))
    ∙ sym (ap (with_all q) (drop_more sets k s h) ∙ ap (λ (one : Set). with_all (with_set q one) (drop (k + 1) sets)) (sym e))

-- ---- sorts

below_set : (d : ℕ) (xs : List ℕ) (k v : ℕ) → all_below d xs ≡ true → nat_lt v (2 ^ d) ≡ true → all_below d (set xs k v) ≡ true
below_set d [] k v h g = refl
below_set d (x ∷ xs) zero v h g = and_from _ _ g (and_parts (nat_lt x (2 ^ d)) _ h).1
below_set d (x ∷ xs) (suc k) v h g =
    let p = and_parts (nat_lt x (2 ^ d)) (all_below d xs) h in
    and_from _ _ p.0 (below_set d xs k v p.1 g)

word_sorted : (n : Name) (t : Sort) (x : Value) (s : Set) → is_of_sort t x ≡ true → suits (settable n t) s ≡ true → is_of_sort t (with_word x s.word s.value) ≡ true
word_sorted n truth (truth_value b) s h g = refl
word_sorted n truth (number k) s h g = absurd (false≢true h)
word_sorted n truth (words xs) s h g = absurd (false≢true h)
word_sorted n (word w) (truth_value b) s h g = absurd (false≢true h)
word_sorted n (word w) (number k) s h g = (and_parts (s.word == 0) (nat_lt s.value (2 ^ w)) g).1
word_sorted n (word w) (words xs) s h g = absurd (false≢true h)
word_sorted n (memory a d) (truth_value b) s h g = absurd (false≢true h)
word_sorted n (memory a d) (number k) s h g = absurd (false≢true h)
word_sorted n (memory a d) (words xs) s h g =
    let p = and_parts (length xs == 2 ^ a) (all_below d xs) h in
    let fits = (and_parts (nat_lt s.word (2 ^ a)) (nat_lt s.value (2 ^ d)) g).1 in
    and_from _ _ (ap (λ n. n == 2 ^ a) (length-set xs s.word s.value) ∙ p.0) (below_set d xs s.word s.value p.1 fits)

set_sorted : (ns : Entries Sort) (xs : List Value) (k : ℕ) (s : Set) → AreOfSorts ns xs → suits_at (settables_by ns) k s ≡ true → AreOfSorts ns (set xs k (with_word (get_or xs k (number 0)) s.word s.value))
set_sorted [] xs k s a h = absurd (false≢true h)
set_sorted (n ∷ ns) [] k s a h = absurd a
set_sorted (n ∷ ns) (x ∷ xs) zero s a h = (word_sorted n.0 n.1 x s a.0 h, a.1)
set_sorted (n ∷ ns) (x ∷ xs) (suc k) s a h = (a.0, set_sorted ns xs k s a.1 h)

all_sorted : (ns : Entries Sort) (xs : List Value) (sets : List Set) → AreOfSorts ns xs → are_right (settables_by ns) sets ≡ true → AreOfSorts ns (with_all xs sets)
all_sorted ns xs [] a h = a
all_sorted ns xs (s ∷ sets) a h =
    all_sorted ns (with_set xs s) sets (set_sorted ns xs s.place s a (left_part (is_right (settables_by ns) s) (are_right (settables_by ns) sets) h))
    (right_part (is_right (settables_by ns) s) (are_right (settables_by ns) sets) h)

-- ---- meaning

here_set : (t : Bool) (x y : Value) (o : Option Value) → value_or_zero (cond t (Some y) o) ≡ cond t y (value_or_zero (cond t (Some x) o))
here_set true x y o = refl
here_set false x y o = refl

there_set : (t u : Bool) (x y : Value) (o r : Option Value) → (t ≡ true → u ≡ false) → value_or_zero o ≡ cond u y (value_or_zero r)
    → value_or_zero (cond t (Some x) o) ≡ cond u y (value_or_zero (cond t (Some x) r))
there_set true u x y o r f h = sym (ap (λ b. cond b y x) (f refl))
there_set false u x y o r f h = h

-- the first name of a list differs from the others
first_apart : (t : Settable) (ss : List Settable) (k : ℕ) → are_apart (t ∷ ss) ≡ true → k < length ss → same_name t.called (called_at ss k) ≡ false
first_apart t ss k a h = turned t.called (called_at ss k) ∙ absent ss t.called k (left_part _ _ a) h

not_same : (n c q : Name) → same_name n c ≡ false → same_name n q ≡ true → same_name c q ≡ false
not_same n c q h e = subst (λ m. same_name c m ≡ false) (same-from n q e) (turned c n ∙ h)

suits_inside : (ss : List Settable) (k : ℕ) (s : Set) → suits_at ss k s ≡ true → k < length ss
suits_inside [] k s h = absurd (false≢true h)
suits_inside (t ∷ ss) zero s h = omega arith
suits_inside (t ∷ ss) (suc k) s h = omega (arith, suits_inside ss k s h)

meant_set : (ns : Entries Sort) (xs : List Value) (k : ℕ) (y : Value) (q : Name) → are_apart (settables_by ns) ≡ true → AreOfSorts ns xs → k < length (settables_by ns)
    → valuation_of (values_by_name ns (set xs k y)) q ≡ with_value (valuation_of (values_by_name ns xs)) (called_at (settables_by ns) k) y q
meant_set [] xs k y q a w h = absurd (omega arith)
meant_set (n ∷ ns) [] k y q a w h = absurd w
meant_set (n ∷ ns) (x ∷ xs) zero y q a w h =
    here_set (same_name n.0 q) x y (entry_of (values_by_name ns xs) q)
    ∙ ap (λ m. cond (same_name m q) y (value_or_zero (cond (same_name n.0 q) (Some x) (entry_of (values_by_name ns xs) q)))) (sym (named_as n.0 n.1))
meant_set (n ∷ ns) (x ∷ xs) (suc k) y q a w h =
    let c = called_at (settables_by ns) k in
    let differs : same_name n.0 c ≡ false =
    ap (λ m. same_name m c) (sym (named_as n.0 n.1)) ∙ first_apart (settable n.0 n.1) (settables_by ns) k a (omega arith) in
    there_set (same_name n.0 q) (same_name c q) x y (entry_of (values_by_name ns (set xs k y)) q) (entry_of (values_by_name ns xs) q) (not_same n.0 c q differs)
    (meant_set ns xs k y q (right_part _ _ a) w.1 (omega arith))

found_value : (t : Bool) (x : Value) (o : Option Value) → t ≡ true → value_or_zero (cond t (Some x) o) ≡ x
found_value true x o h = refl
found_value false x o h = absurd (false≢true h)

other_value : (t : Bool) (x : Value) (o : Option Value) → t ≡ false → value_or_zero (cond t (Some x) o) ≡ value_or_zero o
other_value true x o h = absurd (false≢true (sym h))
other_value false x o h = refl

-- the value under the name at a place
pub meant_at : (ns : Entries Sort) (xs : List Value) (k : ℕ) → are_apart (settables_by ns) ≡ true → k < length (settables_by ns)
    → valuation_of (values_by_name ns xs) (called_at (settables_by ns) k) ≡ get_or xs k (number 0)
meant_at [] xs k a h = absurd (omega arith)
meant_at (n ∷ ns) [] k a h = refl
meant_at (n ∷ ns) (x ∷ xs) zero a h =
    found_value _ x _ (ap (λ m. same_name n.0 m) (named_as n.0 n.1) ∙ same-refl n.0)
meant_at (n ∷ ns) (x ∷ xs) (suc k) a h =
    let c = called_at (settables_by ns) k in
    let differs : same_name n.0 c ≡ false =
    ap (λ m. same_name m c) (sym (named_as n.0 n.1)) ∙ first_apart (settable n.0 n.1) (settables_by ns) k a (omega arith) in
    other_value _ x _ differs ∙ meant_at ns xs k (right_part _ _ a) (omega arith)

one_meant : (ns : Entries Sort) (xs : List Value) (s : Set) → are_apart (settables_by ns) ≡ true → AreOfSorts ns xs → is_right (settables_by ns) s ≡ true
    → valuation_of (values_by_name ns (with_set xs s)) ≡ with_value (valuation_of (values_by_name ns xs)) (called_at (settables_by ns) s.place) (with_word (valuation_of (values_by_name ns xs) (called_at (settables_by ns) s.place)) s.word s.value)
one_meant ns xs s a w h =
    let v = valuation_of (values_by_name ns xs) in
    let c = called_at (settables_by ns) s.place in
    let inside = suits_inside (settables_by ns) s.place s h in
    let made : valuation_of (values_by_name ns (with_set xs s)) ≡ with_value v c (with_word (get_or xs s.place (number 0)) s.word s.value) =
    fun_ext (λ q. meant_set ns xs s.place (with_word (get_or xs s.place (number 0)) s.word s.value) q a w inside) in
    made ∙ ap (λ x. with_value v c (with_word x s.word s.value)) (sym (meant_at ns xs s.place a inside))

all_meant : (ns : Entries Sort) (xs : List Value) (sets : List Set) → are_apart (settables_by ns) ≡ true → AreOfSorts ns xs → are_right (settables_by ns) sets ≡ true
    → valuation_of (values_by_name ns (with_all xs sets)) ≡ with_sets (valuation_of (values_by_name ns xs)) (sets_view (settables_by ns) sets)
all_meant ns xs [] a w h = refl
all_meant ns xs (s ∷ sets) a w h =
    let here = left_part (is_right (settables_by ns) s) (are_right (settables_by ns) sets) h in
    let rest = right_part (is_right (settables_by ns) s) (are_right (settables_by ns) sets) h in
    all_meant ns (with_set xs s) sets a (set_sorted ns xs s.place s w here) rest
    ∙ ap (λ v. with_sets v (sets_view (settables_by ns) sets)) (one_meant ns xs s a w here)

-- ---- beginnings

zero_same : (s : Sort) → zero_of s ≡ zero_value s
zero_same truth = refl
zero_same (word w) = refl
zero_same (memory a d) = refl

begun_same : (s : Sort) (i : Option Value) → value_or i (zero_of s) ≡ initial_or_zero s i
begun_same s None = zero_same s
begun_same s (Some x) = refl

initial_at : (ss : List StateDeclaration) (n : Name) → valuation_of (values_by_name (sorts_of_states ss) (initial_values ss)) n ≡ first_value (state_named ss n)
initial_at [] n = refl
initial_at (s ∷ ss) n = shown (same_name s.state_name n) (initial_at ss n) where
  shown : (t : Bool) → value_or_zero (entry_of (values_by_name (sorts_of_states ss) (initial_values ss)) n) ≡ first_value (state_named ss n)
      → value_or_zero (cond t (Some (value_or s.init (zero_of s.sort))) (entry_of (values_by_name (sorts_of_states ss) (initial_values ss)) n)) ≡ first_value (cond t (Some s) (state_named ss n))
  shown true h = begun_same s.sort s.init
  shown false h = h

zero_at : (is : List InputDeclaration) (n : Name) → valuation_of (values_by_name (sorts_of_inputs is) (zero_values is)) n ≡ zero_input is n
zero_at [] n = refl
zero_at (i ∷ is) n = shown (same_name i.input_name n) (zero_at is n) where
  shown : (t : Bool) → value_or_zero (entry_of (values_by_name (sorts_of_inputs is) (zero_values is)) n) ≡ zero_input is n
      → value_or_zero (cond t (Some (zero_value i.sort)) (entry_of (values_by_name (sorts_of_inputs is) (zero_values is)) n)) ≡ cond t (zero_value i.sort) (zero_input is n)
  shown true h = refl
  shown false h = h

zeros_sorted : (is : List InputDeclaration) → AreOfSorts (sorts_of_inputs is) (zero_values is)
zeros_sorted [] = tt
zeros_sorted (i ∷ is) = (subst (λ x. is_of_sort i.sort x ≡ true) (zero_same i.sort) (zero_has_sort i.sort), zeros_sorted is)

pub zero_there : (is : List InputDeclaration) (k : ℕ) (s : Sort) → option_map (λ (i : InputDeclaration). i.sort) (slice_get is k) ≡ Some s → slice_get (zero_values is) k ≡ Some (zero_value s)
zero_there [] k s e = absurd (cc)
zero_there (i ∷ is) zero s e =
    let same : i.sort ≡ s = cc in
    ap (λ t. Some (zero_value t)) same
zero_there (i ∷ is) (suc k) s e = zero_there is k s e

-- ---- a model's

pub state_sorted : (m : Model) (xs : List Value) (sets : List Set) → IsStateOf m xs → are_right (settables_of m).states sets ≡ true → IsStateOf m (with_all xs sets)
state_sorted m xs sets w h =
    all_sorted (sorts_of_states (states_of m.top)) xs sets w (subst (λ ss. are_right ss sets ≡ true) (states_by (states_of m.top)) h)

pub state_meant : (m : Model) (xs : List Value) (sets : List Set) → are_apart (settables_of m).states ≡ true → xs ≡ initial_values (states_of m.top) → IsStateOf m xs
    → are_right (settables_of m).states sets ≡ true → state_valuation m (with_all xs sets) ≡ with_sets (initial_state m) (sets_view (settables_of m).states sets)
state_meant m xs sets a e w h =
    let ns = sorts_of_states (states_of m.top) in
    let by = states_by (states_of m.top) in
    let begun : valuation_of (values_by_name ns xs) ≡ initial_state m =
    ap (λ ys. valuation_of (values_by_name ns ys)) e ∙ fun_ext (λ n. initial_at (states_of m.top) n) in
    all_meant ns xs sets (subst (λ ss. are_apart ss ≡ true) by a) w (subst (λ ss. are_right ss sets ≡ true) by h)
    ∙ (ap (λ v. with_sets v (sets_view (settables_by ns) sets)) begun
    ∙ ap (λ ss. with_sets (initial_state m) (sets_view ss sets)) (sym by))

pub inputs_sorted : (m : Model) (sets : List Set) → are_right (settables_of m).inputs sets ≡ true → AreInputsOf m (with_all (zero_values m.inputs) sets)
inputs_sorted m sets h =
    all_sorted (sorts_of_inputs m.inputs) (zero_values m.inputs) sets (zeros_sorted m.inputs) (subst (λ ss. are_right ss sets ≡ true) (inputs_by m.inputs) h)

pub inputs_meant : (m : Model) (sets : List Set) → are_apart (settables_of m).inputs ≡ true → are_right (settables_of m).inputs sets ≡ true
    → input_valuation m (with_all (zero_values m.inputs) sets) ≡ inputs_of m (sets_view (settables_of m).inputs sets)
inputs_meant m sets a h =
    let ns = sorts_of_inputs m.inputs in
    let by = inputs_by m.inputs in
    let begun : valuation_of (values_by_name ns (zero_values m.inputs)) ≡ zero_input m.inputs = fun_ext (λ n. zero_at m.inputs n) in
    all_meant ns (zero_values m.inputs) sets (subst (λ ss. are_apart ss ≡ true) by a) (zeros_sorted m.inputs) (subst (λ ss. are_right ss sets ≡ true) by h)
    ∙ (ap (λ v. with_sets v (sets_view (settables_by ns) sets)) begun
    ∙ ap (λ ss. with_sets (zero_input m.inputs) (sets_view ss sets)) (sym by))

-- ---- the code's list

pub set_made : (xs : List code.Value) (k w v : ℕ) (d y : code.Value) → k < length xs → as_value y ≡ with_word (as_value (get_or xs k d)) w v
    → map as_value (set xs k y) ≡ set (map as_value xs) k (with_word (get_or (map as_value xs) k (number 0)) w v)
set_made [] k w v d y h e = absurd (omega arith)
set_made (x ∷ xs) zero w v d y h e = ap (λ z. z ∷ map as_value xs) e
set_made (x ∷ xs) (suc k) w v d y h e = ap (λ zs. as_value x ∷ zs) (set_made xs k w v d y (omega arith) e)
