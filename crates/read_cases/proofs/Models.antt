-- A model that is kept as terms has states of legal sorts, and no input that is a memory.
use Rattle.std.proofs.Common.{◌≡◌, ◌∙◌, ℕ, zero, suc, ◌+◌, ◌<◌, ◌≤◌, ◌⊎◌, inl, inr, ◌&&◌, refl, sym, ap, subst, Bool, true, false, true≢false, List, [], ◌∷◌, length, drop, Some, None, arith}
use Rattle.std.specs.Prelude.{slice_get, option_map, IsTrue}
use Rattle.std.proofs.lemmas.Bool.{and_parts, cases_lt}
use Rattle.wb_values.specs.Value.{Sort, truth, word, memory, Entries}
use Rattle.model_meaning.specs.Term.{is_sort, is_memory_sort}
use Rattle.model_meaning.specs.Model.{StateDeclaration, InputDeclaration}
use Rattle.ila_model.specs.declared.parts.Parts.{Parts}
use Rattle.ila_model.specs.Meaning.{declared_inputs}
use Rattle.ila_model.specs.Sorted.{is_input_sort, are_inputs, are_declarations, are_distinct, are_states, are_placed, is_machine, are_children, is_well_sorted}
use Rattle.ila_model.specs.Scope.{tops}

same_some : {A : Type 0} {x y : A} → Some x ≡ Some y → x ≡ y
same_some e = cc

-- ---- states

pub states_turn : (states : List StateDeclaration) (n : ℕ) (s : Sort) → option_map (λ (d : StateDeclaration). d.sort) (slice_get states n) ≡ Some s → IsTrue (is_sort s)
    → ((k : ℕ) (d : StateDeclaration) → k < n → slice_get states k ≡ Some d → IsTrue (is_sort d.sort))
    → (k : ℕ) (d : StateDeclaration) → k < n + 1 → slice_get states k ≡ Some d → IsTrue (is_sort d.sort)
states_turn states n s is legal h k d lt at = by (cases_lt k n)
  where
    here : k ≡ n → IsTrue (is_sort d.sort)
    here same =
        let e : Some d.sort ≡ Some s =
        ap (option_map (λ (x : StateDeclaration). x.sort)) (sym at) ∙ (ap (λ j. option_map (λ (x : StateDeclaration). x.sort) (slice_get states j)) same ∙ is) in
        subst (λ t. IsTrue (is_sort t)) (sym (same_some e)) legal

    by : (k < n) ⊎ (n ≤ k) → IsTrue (is_sort d.sort)
    by (inl below) = h k d below at
    by (inr above) = here (omega (arith, lt, above))

get_within : {A : Type 0} (xs : List A) (k : ℕ) (x : A) → slice_get xs k ≡ Some x → k < length xs
get_within [] k x e = cc
get_within (y ∷ xs) zero x e = omega arith
get_within (y ∷ xs) (suc k) x e = let f = get_within xs k x e in omega (arith, f)

pub all_states : (states : List StateDeclaration) (n : ℕ) → length states ≤ n
    → ((k : ℕ) (d : StateDeclaration) → k < n → slice_get states k ≡ Some d → IsTrue (is_sort d.sort))
    → (k : ℕ) (d : StateDeclaration) → slice_get states k ≡ Some d → IsTrue (is_sort d.sort)
all_states states n le h k d at = let within : k < length states = get_within states k d at in h k d (omega (arith, le, within)) at

-- ---- inputs

not_memory : (s : Sort) → is_input_sort s ≡ true → is_memory_sort s ≡ false
not_memory truth h = refl
not_memory (word w) h = refl
not_memory (memory a d) h = absurd (true≢false (sym h))

inputs_at : (n : ℕ) (ns : Entries Sort) → are_inputs n ns ≡ true → (k : ℕ) (i : InputDeclaration) → slice_get (declared_inputs n ns) k ≡ Some i → is_memory_sort i.sort ≡ false
inputs_at zero ns h k i at = cc
inputs_at (suc n) [] h k i at = absurd (true≢false (sym h))
inputs_at (suc n) (x ∷ ns) h zero i at =
    let both = and_parts (is_input_sort x.1) (are_inputs n ns) h in
    subst (λ (z : InputDeclaration). is_memory_sort z.sort ≡ false) (same_some at) (not_memory x.1 both.0)
inputs_at (suc n) (x ∷ ns) h (suc k) i at = inputs_at n ns (and_parts (is_input_sort x.1) (are_inputs n ns) h).1 k i at

pub inputs_are_words : (p : Parts) → IsTrue (is_well_sorted p) → (k : ℕ) (i : InputDeclaration)
    → slice_get (declared_inputs p.inputs (drop (length p.initial_values.items) p.terms.names)) k ≡ Some i → is_memory_sort i.sort ≡ false
inputs_are_words p h =
    let inputs : Bool = are_inputs p.inputs (drop (length p.initial_values.items) p.terms.names) in
    let placed : Bool = are_placed (tops p) (length p.terms.names) p.children.items in
    let one = and_parts (are_distinct p.terms.names) (are_declarations p && (is_machine p None p.valid.0 p.instructions.items && are_children p 0 p.children.items)) h in
    let two = and_parts (are_declarations p) (is_machine p None p.valid.0 p.instructions.items && are_children p 0 p.children.items) one.1 in
    let three = and_parts (are_states false p.terms.names p.initial_values.items) (inputs && placed) two.0 in
    inputs_at p.inputs (drop (length p.initial_values.items) p.terms.names) (and_parts inputs placed three.1).0
