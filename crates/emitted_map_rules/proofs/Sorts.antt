-- The sorts of a model that stands for well sorted parts are in range.
use Rattle.std.proofs.Common.{◌≡◌, ℕ, zero, suc, ◌+◌, ◌<◌, true, not, ◌&&◌, List, [], ◌∷◌, length, drop, inl, inr, refl, ◌∙◌, ap, subst, Option, arith}
use Rattle.std.proofs.lemmas.Bool.{false≢true, and_parts, and_from}
use Rattle.std.proofs.lemmas.List.{length-drop, get_or-drop}
use Rattle.wb_values.specs.Value.{Name, Sort, truth, word, memory, Entries}
use Rattle.model_meaning.specs.Term.{is_sort, is_memory_sort}
use Rattle.model_meaning.specs.Model.{StateDeclaration, InputDeclaration}
use Rattle.wb_terms.specs.declared.values.Value.{Value}
use Rattle.ila_model.specs.declared.parts.Parts.{Parts}
use Rattle.ila_model.specs.Sorted.{sort_at, are_inputs, is_input_sort}
use Rattle.ila_model.specs.Meaning.{declared_states, declared_inputs, model_from}
use Rattle.ila_model.proofs.Declarations.{sorted}
use Rattle.verilog_unique.proofs.Descent.{IsAmong, among_contains}
use Rattle.emitted_modules.specs.Laws.{IsFlatModel}
use Rattle.emitted_map_rules.specs.Rules.{HasSortsInRange}

abbrev AllInRange : Entries Sort → Type 0
AllInRange ns = (k : ℕ) → k < length ns → is_sort (sort_at ns k) ≡ true

later_in_range : (n : Name × Sort) (ns : Entries Sort) → AllInRange (n ∷ ns) → AllInRange ns
later_in_range n ns h k low = h (suc k) (omega (arith, low))

state_sort : (ns : Entries Sort) (is : List (Option Value)) (d : StateDeclaration) → AllInRange ns → IsAmong (declared_states ns is) d → is_sort d.sort ≡ true
state_sort [] is d all h = absurd h
state_sort (n ∷ ns) [] d all h = absurd h
state_sort (n ∷ ns) (i ∷ is) d all (inl e) = subst (λ (x : StateDeclaration). is_sort x.sort ≡ true) e (all 0 (omega arith))
state_sort (n ∷ ns) (i ∷ is) d all (inr h) = state_sort ns is d (later_in_range n ns all) h

bits_alone : (t : Sort) → is_sort t ≡ true → is_input_sort t ≡ true → (is_sort t && not (is_memory_sort t)) ≡ true
bits_alone truth h e = refl
bits_alone (word w) h e = and_from (is_sort (word w)) true h refl
bits_alone (memory a d) h e = absurd (false≢true e)

input_sort : (m : ℕ) (ns : Entries Sort) (i : InputDeclaration) → AllInRange ns → are_inputs m ns ≡ true → IsAmong (declared_inputs m ns) i
    → (is_sort i.sort && not (is_memory_sort i.sort)) ≡ true
input_sort zero ns i all h at = absurd at
input_sort (suc m) [] i all h at = absurd at
input_sort (suc m) (n ∷ ns) i all h (inl e) =
    subst (λ (x : InputDeclaration). (is_sort x.sort && not (is_memory_sort x.sort)) ≡ true) e
    (bits_alone n.1 (all 0 (omega arith)) (and_parts (is_input_sort n.1) (are_inputs m ns) h).0)
input_sort (suc m) (n ∷ ns) i all h (inr at) =
    input_sort m ns i (later_in_range n ns all) (and_parts (is_input_sort n.1) (are_inputs m ns) h).1 at

dropped_in_range : (s : ℕ) (ns : Entries Sort) → AllInRange ns → AllInRange (drop s ns)
dropped_in_range s ns all k low = ap (λ (e : Name × Sort). is_sort e.1) (get_or-drop s ns k ([], truth)) ∙ all (s + k) (omega (arith, low, length-drop s ns))

pub sorts_in_range : (name : Name) (p : Parts) → IsFlatModel name p → HasSortsInRange (model_from name p)
sorts_in_range name p h = record {
  states = λ d at. state_sort p.terms.names p.initial_values.items d h.stored.in_range (among_contains (declared_states p.terms.names p.initial_values.items) d at);
  inputs = λ i at.
      input_sort p.inputs (drop (length p.initial_values.items) p.terms.names) i
      (dropped_in_range (length p.initial_values.items) p.terms.names h.stored.in_range) (sorted p h.sorted).declared.inputs
      (among_contains (declared_inputs p.inputs (drop (length p.initial_values.items) p.terms.names)) i at);
}
