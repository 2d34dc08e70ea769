-- The states and inputs of a model from its parts.
use Rattle.std.proofs.Common.{◌≡◌, ℕ, zero, suc, ◌+◌, ◌<◌, max, Bool, true, false, nat_lt, inl, inr, List, [], ◌∷◌, ◌++◌, length, drop, Option, Some, None, refl, sym, ◌∙◌, ap, subst, arith}
use Rattle.std.specs.Prelude.{slice_get, option_map}
use Rattle.std.specs.List.{list_all}
use Rattle.std.proofs.lemmas.Bool.{false≢true, and_parts}
use Rattle.std.proofs.lemmas.List.{length-drop, get_or-drop, append-nil}
use Rattle.wb_values.specs.Value.{Name, Sort, truth, word, memory, Entries, is_of_sort}
use Rattle.wb_values.specs.Value as meaning
use Rattle.model_meaning.specs.Term.{is_sort, is_memory_sort}
use Rattle.model_meaning.specs.Model.{Model, Machine, machine, Instruction, instruction, Instructions, no_instructions, and_then, no_child, child, StateDeclaration, InputDeclaration, states_of}
use Rattle.model_meaning.specs.Invariant.{all_machines, program_machines, instruction_machines, gathered}
use Rattle.wb_terms.specs.declared.values.Value.{Value}
use Rattle.wb_terms.specs.Environment.{as_value}
use Rattle.ila_model.specs.Sorted.{sort_at, are_states, are_inputs, is_top_initial, is_input_sort}
use Rattle.ila_model.specs.Meaning.{declared_states, declared_inputs}
use Rattle.emitted_designs.specs.Bounds.{nesting_of, nesting_among, nesting_of_instruction, has_children}
use Rattle.emitted_designs.specs.Module.{all_states}
use Rattle.emitted_modules.proofs.Names.{Among}
use Rattle.emitted_modules.proofs.NetWidths.{IsBitsSort}

pub among_got : {A : Type 0} (xs : List A) (k : ℕ) (x : A) → slice_get xs k ≡ Some x → Among x xs
among_got [] k x e = cc
among_got (y ∷ xs) zero x e = let same : y ≡ x = cc in inl same
among_got (y ∷ xs) (suc k) x e = inr (among_got xs k x e)

pub all_of : {A : Type 0} (p : A → Bool) (xs : List A) (x : A) → list_all p xs ≡ true → Among x xs → p x ≡ true
all_of p [] x e h = absurd h
all_of p (y ∷ xs) x e (inl f) = ap p (sym f) ∙ (and_parts (p y) (list_all p xs) e).0
all_of p (y ∷ xs) x e (inr h) = all_of p xs x (and_parts (p y) (list_all p xs) e).1 h

-- ---- sorts

pub bits_by : (t : Sort) → is_sort t ≡ true → is_memory_sort t ≡ false → IsBitsSort t
bits_by truth h e = tt
bits_by (word w) h e = h
bits_by (memory a d) h e = absurd (false≢true (sym e))

abbrev pub AllInRange : Entries Sort → Type 0
AllInRange ns = (k : ℕ) → k < length ns → is_sort (sort_at ns k) ≡ true

later_in_range : (n : Name × Sort) (ns : Entries Sort) → AllInRange (n ∷ ns) → AllInRange ns
later_in_range n ns h k low = h (suc k) (omega (arith, low))

pub state_sort : (ns : Entries Sort) (is : List (Option Value)) (d : StateDeclaration) → AllInRange ns → Among d (declared_states ns is) → is_sort d.sort ≡ true
state_sort [] is d all h = absurd h
state_sort (n ∷ ns) [] d all h = absurd h
state_sort (n ∷ ns) (i ∷ is) d all (inl e) = subst (λ (x : StateDeclaration). is_sort x.sort ≡ true) e (all 0 (omega arith))
state_sort (n ∷ ns) (i ∷ is) d all (inr h) = state_sort ns is d (later_in_range n ns all) h

-- a stated initial value is of the state's sort
first_value_sorted : (t : Sort) (i : Option Value) (x : meaning.Value) → is_top_initial t i ≡ true → option_map as_value i ≡ Some x → is_of_sort t x ≡ true
first_value_sorted t None x h e = cc
first_value_sorted truth (Some y) x h e = let same : as_value y ≡ x = cc in subst (λ z. is_of_sort truth z ≡ true) same h
first_value_sorted (word w) (Some y) x h e = let same : as_value y ≡ x = cc in subst (λ z. is_of_sort (word w) z ≡ true) same h
first_value_sorted (memory a d) (Some y) x h e = absurd (false≢true h)

pub initial_values_sorted : (ns : Entries Sort) (is : List (Option Value)) → are_states false ns is ≡ true → (d : StateDeclaration) (x : meaning.Value)
    → Among d (declared_states ns is) → d.init ≡ Some x → is_of_sort d.sort x ≡ true
initial_values_sorted [] is h d x at e = absurd at
initial_values_sorted (n ∷ ns) [] h d x at e = absurd at
initial_values_sorted (n ∷ ns) (i ∷ is) h d x (inl f) e =
    subst (λ (s : StateDeclaration). is_of_sort s.sort x ≡ true) f
    (first_value_sorted n.1 i x (and_parts (is_top_initial n.1 i) (are_states false ns is) h).0
    (subst (λ (s : StateDeclaration). s.init ≡ Some x) (sym f) e))
initial_values_sorted (n ∷ ns) (i ∷ is) h d x (inr at) e =
    initial_values_sorted ns is (and_parts (is_top_initial n.1 i) (are_states false ns is) h).1 d x at e

-- a memory states none
none_of_memory : (t : Sort) (i : Option Value) (x : meaning.Value) → is_top_initial t i ≡ true → option_map as_value i ≡ Some x → is_memory_sort t ≡ false
none_of_memory truth i x h e = refl
none_of_memory (word w) i x h e = refl
none_of_memory (memory a d) None x h e = cc
none_of_memory (memory a d) (Some y) x h e = absurd (false≢true h)

pub stated_by_no_memory : (ns : Entries Sort) (is : List (Option Value)) → are_states false ns is ≡ true → (d : StateDeclaration) (x : meaning.Value)
    → Among d (declared_states ns is) → d.init ≡ Some x → is_memory_sort d.sort ≡ false
stated_by_no_memory [] is h d x at e = absurd at
stated_by_no_memory (n ∷ ns) [] h d x at e = absurd at
stated_by_no_memory (n ∷ ns) (i ∷ is) h d x (inl f) e =
    subst (λ (s : StateDeclaration). is_memory_sort s.sort ≡ false) f
    (none_of_memory n.1 i x (and_parts (is_top_initial n.1 i) (are_states false ns is) h).0
    (subst (λ (s : StateDeclaration). s.init ≡ Some x) (sym f) e))
stated_by_no_memory (n ∷ ns) (i ∷ is) h d x (inr at) e =
    stated_by_no_memory ns is (and_parts (is_top_initial n.1 i) (are_states false ns is) h).1 d x at e

input_bits : (t : Sort) → is_sort t ≡ true → is_input_sort t ≡ true → IsBitsSort t
input_bits truth h e = tt
input_bits (word w) h e = h
input_bits (memory a d) h e = absurd (false≢true e)

some_inputs : (m : ℕ) (ns : Entries Sort) → AllInRange ns → are_inputs m ns ≡ true → (i : InputDeclaration) → Among i (declared_inputs m ns) → IsBitsSort i.sort
some_inputs zero ns all h i at = absurd at
some_inputs (suc m) [] all h i at = absurd at
some_inputs (suc m) (n ∷ ns) all h i (inl e) =
    subst (λ (x : InputDeclaration). IsBitsSort x.sort) e
    (input_bits n.1 (all 0 (omega arith)) (and_parts (is_input_sort n.1) (are_inputs m ns) h).0)
some_inputs (suc m) (n ∷ ns) all h i (inr at) =
    some_inputs m ns (later_in_range n ns all) (and_parts (is_input_sort n.1) (are_inputs m ns) h).1 i at

pub inputs_are_bits : (m s : ℕ) (ns : Entries Sort) → AllInRange ns → are_inputs m (drop s ns) ≡ true → (i : InputDeclaration)
    → Among i (declared_inputs m (drop s ns)) → IsBitsSort i.sort
inputs_are_bits m s ns all h =
    some_inputs m (drop s ns)
    (λ k low. ap (λ (e : Name × Sort). is_sort e.1) (get_or-drop s ns k ([], truth)) ∙ all (s + k) (omega (arith, low, length-drop s ns))) h

-- ---- child programs: there are none

max_zero : (x y : ℕ) → max x y ≡ 0 → (x ≡ 0) × (y ≡ 0)
max_zero x y e = (omega (arith, e), omega (arith, e))

no_machine : (i : Instruction) → nesting_of_instruction i ≡ 0 → instruction_machines i ≡ []
no_machine (instruction called decode update no_child) e = refl
no_machine (instruction called decode update (child steps program)) e = absurd (omega (arith, e))

no_machines : (is : Instructions) → nesting_among is ≡ 0 → program_machines is ≡ []
no_machines no_instructions e = refl
no_machines (and_then i is) e =
    let parts = max_zero (nesting_of_instruction i) (nesting_among is) e in
    ap (λ ms. ms ++ program_machines is) (no_machine i parts.0) ∙ no_machines is parts.1

pub own_states_alone : (m : Model) → nesting_of m.top ≡ 0 → all_states m ≡ states_of m.top
own_states_alone m e = by_machine m.top e
  where
    by_machine : (top : Machine) → nesting_of top ≡ 0 → gathered states_of (all_machines top) ≡ states_of top
    by_machine (machine states valid is) f = ap (λ ms. states ++ gathered states_of ms) (no_machines is f) ∙ append-nil states

pub no_children : (m : Model) → nesting_of m.top ≡ 0 → has_children m ≡ false
no_children m e = ap (nat_lt 0) e
