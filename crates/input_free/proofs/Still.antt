-- Terms of states and invariants do not depend on inputs, where what is mapped uses none.
use Rattle.std.proofs.Common.{◌≡◌, Bool, true, false, ◌∙◌, ℕ, suc, List, [], ◌∷◌, ◌++◌, map, slice_get, Option, Some, None, refl, sym, ap}
use Rattle.std.proofs.lemmas.Bool.{false≢true}
use Rattle.std.proofs.lemmas.Slice.Eq.{bytes_eq-Decides}
use Rattle.wb_values.specs.Value.{Name, same_name, Sort, truth, word, memory, Value, truth_value, number, words, as_words, Valuation, entry_of}
use Rattle.model_meaning.specs.Model.{StateDeclaration, states_of, state_named}
use Rattle.verilog_trees.specs.Syntax.{Expression}
use Rattle.verilog_exists.proofs.Exists.{settled_exists}
use Rattle.refinement.specs.Map.{Setting, design_of, mapped_memory, mapped_value, mapped_or_zero, mapped_state, sort_of_state}
use Rattle.input_free.specs.Free.{SettleAlike}
use Rattle.input_free.proofs.Free.{values_are_free, conditions_are_free}
use Rattle.input_free.proofs.Memories.{memories_are_free}
use Rattle.v_design.specs.Design.{worth}
use Rattle.mapped_designs.specs.Meaning.{condition_value}
use Rattle.input_free.specs.Still.{NamesMemory, IsStillFor, IsStillMap, StillMapsStandStill}

alike_at : {A : Type 0} (f g : A → Value) (xs : List A) → ((k : ℕ) (x : A) → slice_get xs k ≡ Some x → f x ≡ g x) → map f xs ≡ map g xs
alike_at f g [] h = refl
alike_at f g (x ∷ xs) h = let here = h 0 x refl in let there = alike_at f g xs (λ k y e. h (suc k) y e) in λ i. here i ∷ there i

-- values of two lists, one after the other
in_turn : {A B C : Type 0} (f : A → Value) (p : B → Value) (q : C → Value) (xs ys : List A) (bs : List B) (cs : List C) → map f xs ≡ map p bs → map f ys ≡ map q cs
    → map f (xs ++ ys) ≡ map p bs ++ map q cs
in_turn {A = A} f p q xs ys bs cs e g = both xs e
  where
    front : (zs : List A) → map f (zs ++ ys) ≡ map f zs ++ map f ys
    front [] = refl
    front (z ∷ zs) = ap (λ vs. f z ∷ vs) (front zs)

    both : (zs : List A) → map f zs ≡ map p bs → map f (zs ++ ys) ≡ map p bs ++ map q cs
    both zs h = front zs ∙ (ap (λ vs. vs ++ map f ys) h ∙ ap (λ vs. map p bs ++ vs) g)

-- two lists of which it is refuted that they differ
one_list : (xs ys : List ℕ) → ¬ (¬ (xs ≡ ys)) → xs ≡ ys
one_list xs ys h = by (same_name xs ys) refl
  where
    by : (t : Bool) → same_name xs ys ≡ t → xs ≡ ys
    by true e = (bytes_eq-Decides xs ys).0 e
    by false e = absurd (h (λ f. false≢true (sym e ∙ (bytes_eq-Decides xs ys).1 f)))

module _ (s : Setting) (v w : Valuation) (alike : SettleAlike (design_of s) v w) (still : IsStillMap s) where
  memory_same : (e : Expression) → NamesMemory (design_of s) e → mapped_memory v e ≡ mapped_memory w e
  memory_same e h =
      ap (mapped_memory v) h.is_name
      ∙ (ap as_words (memories_are_free (design_of s) v w h.within h.own alike h.is_memory) ∙ ap (mapped_memory w) (sym h.is_name))

  value_same : (t : Sort) (e : Expression) → IsStillFor (design_of s) t e → mapped_value s v t e ≡ mapped_value s w t e
  value_same truth e h = ap truth_value (conditions_are_free (design_of s) v w e alike h)
  value_same (word u) e h = ap number (values_are_free (design_of s) v w e alike h)
  value_same (memory a u) e h = ap words (one_list (mapped_memory v e) (mapped_memory w e) (λ no. h (λ m. no (memory_same e m))))

  state_same : (n : Name) → mapped_state s v n ≡ mapped_state s w n
  state_same n = by (state_named (states_of s.model.top) n) refl (entry_of s.map.states n) refl
    where
      by : (o : Option StateDeclaration) → state_named (states_of s.model.top) n ≡ o → (x : Option Expression) → entry_of s.map.states n ≡ x
          → mapped_or_zero s v (sort_of_state o) x ≡ mapped_or_zero s w (sort_of_state o) x
      by None f None g = refl
      by None f (Some e) g = refl
      by (Some q) f None g = refl
      by (Some q) f (Some e) g = value_same q.sort e (still.states n q e f g)

  states_same : map (λ (q : StateDeclaration). mapped_state s v q.state_name) (states_of s.model.top) ≡ map (λ q. mapped_state s w q.state_name) (states_of s.model.top)
  states_same = alike_at (λ (q : StateDeclaration). mapped_state s v q.state_name) (λ q. mapped_state s w q.state_name) (states_of s.model.top) (λ k q e. state_same q.state_name)

  invariants_same : map (condition_value s v) s.map.invariants ≡ map (condition_value s w) s.map.invariants
  invariants_same =
      alike_at (condition_value s v) (condition_value s w) s.map.invariants
      (λ k e at_k. ap truth_value (conditions_are_free (design_of s) v w e alike (still.invariants k e at_k)))

pub stands_still : StillMapsStandStill
stands_still s e accepted text still tells registers inputs others are_registers are_inputs are_others =
    let d = design_of s in
    let first = settled_exists d registers inputs accepted text are_inputs in
    let second = settled_exists d registers others accepted text are_others in
    let v = first.0 in
    let w = second.0 in
    let alike : SettleAlike d v w =
    record { accepted = accepted; of_text = text; registers = registers; inputs = inputs; others = others; first = first.1; second = second.1 } in
    let here = tells registers inputs v are_registers are_inputs first.1 in
    let there = tells registers others w are_registers are_others second.1 in
    let states = states_of s.model.top in
    in_turn (worth e.parts registers inputs) (λ (q : StateDeclaration). mapped_state s v q.state_name) (condition_value s v) e.states e.invariants states s.map.invariants
    here.model_states here.invariants
    ∙ ((λ i. states_same s v w alike still i ++ invariants_same s v w alike still i)
    ∙ sym (in_turn (worth e.parts registers others) (λ (q : StateDeclaration). mapped_state s w q.state_name) (condition_value s w) e.states e.invariants states s.map.invariants
    there.model_states there.invariants))
