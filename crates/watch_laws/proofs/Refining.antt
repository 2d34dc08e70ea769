-- A run that disagrees with the model nowhere refines it.
use Rattle.std.proofs.Common.{◌≡◌, ◌≢◌, ◌∙◌, ℕ, zero, suc, ◌+◌, ◌-◌, ◌<◌, ◌≤◌, Bool, true, false, cond, List, [], ◌∷◌, ◌⊎◌, inl, inr, Option, Some, None, arith, subst, sym, refl, ap}
use Rattle.std.specs.Prelude.{IsTrue, is_some, slice_get}
use Rattle.std.proofs.lemmas.Bool.{false≢true, cases_eq}
use Rattle.wb_values.specs.Value.{Name, same_name, Value, truth_value, number, words, Valuation}
use Rattle.model_meaning.specs.Model.{Model, StateDeclaration, state_named, states_of}
use Rattle.model_meaning.specs.Instruction.{Steps, SameStates}
use Rattle.model_meaning.specs.Outcome.{Outcome, IsOutcome, state_after}
use Rattle.refinement.specs.Map.{Setting, InstructionMap, instruction_map}
use Rattle.refinement.specs.Run.{Run}
use Rattle.refinement.specs.Refinement.{state_at, inputs_at, StartsAt, IsMapEntry, CommitsAt, IsCommandOf, EndsAt, HasState, HasInitialValues, Refines}
use Rattle.refinement.specs.Soundness.{IsComplete}
use Rattle.watched_runs.specs.Disagreements.{Disagreement, initial_value, no_step, past_bound, other_state, IsOtherInitial, HasNoStep, IsPastBound, IsOtherState, DisagreesAt}
use Rattle.wb_laws.proofs.Outcomes.{is_a_run}
use Rattle.wb_laws.proofs.SomeOutcome.{an_outcome}
use Rattle.watch_laws.specs.Laws.{AgreeingRunsRefine}
use Rattle.watch_laws.proofs.Deciding.{Told, some_same, is_command}
use Rattle.watch_laws.proofs.Values.{values_told, is_name}

-- a state that is found by a name has a place, and that name
record IsFoundAt (ss : List StateDeclaration) (n : Name) (d : StateDeclaration) : Type 0 where
  place : ℕ
  is_there : slice_get ss place ≡ Some d
  is_called : d.state_name ≡ n

found_at : (ss : List StateDeclaration) (n : Name) (d : StateDeclaration) → state_named ss n ≡ Some d → IsFoundAt ss n d
found_at [] n d e = let none : None ≡ Some d = e in cc
found_at (x ∷ ss) n d e = by_test (same_name x.state_name n) refl (λ later. found_at ss n d later)
  where
    again : IsFoundAt ss n d → IsFoundAt (x ∷ ss) n d
    again f = record { place = suc f.place; is_there = f.is_there; is_called = f.is_called }

    by_test : (b : Bool) → same_name x.state_name n ≡ b → (state_named ss n ≡ Some d → IsFoundAt ss n d) → IsFoundAt (x ∷ ss) n d
    by_test true h rest =
        let here : Some x ≡ Some d = sym (ap (λ t. cond t (Some x) (state_named ss n)) h) ∙ e in
        let same : x ≡ d = cc in
        record { place = 0; is_there = here; is_called = ap (λ y. y.state_name) (sym same) ∙ is_name x.state_name n h }
    by_test false h rest = again (rest (sym (ap (λ t. cond t (Some x) (state_named ss n)) h) ∙ e))

-- whether a model has a next state
steps_told : (m : Model) (q w : Valuation) → Told ((r : Valuation) × Steps m q w r)
steps_told m q w =
    let o = an_outcome m q w in
    let turn = (is_a_run m q (w ∷ []) (o.0 ∷ []) (o.1, tt)).0 in
    elim turn [
      | inl steps ↦ inl (state_after q o.0, steps)
      | inr stays ↦ inr (λ x. stays.0 x.0 x.1)
    ]

module _ (s : Setting) (run : Run) (cycles : ℕ) (complete : IsComplete s) (none : (t : ℕ) (which : Disagreement) → ¬ DisagreesAt s run cycles t which) where
  initial_is : s.map.reset_cycles ≤ cycles → HasInitialValues s.model (state_at s run s.map.reset_cycles)
  initial_is le n d x is stated = elim (values_told (state_at s run s.map.reset_cycles n) x) [
    | inl e ↦ e
    | inr differs ↦
        let f = found_at (states_of s.model.top) n d is in
        absurd (none s.map.reset_cycles (initial_value f.place) (record {
          state = d;
          value = x;
          at_reset = refl;
          within = le;
          is_state = f.is_there;
          stated = stated;
          differs = subst (λ c. state_at s run s.map.reset_cycles c ≢ x) (sym f.is_called) differs;
        }))
  ]

  command_is : (n t : ℕ) (q : Valuation) → HasState s run cycles n q t → t < cycles → StartsAt s run t
      → ((j : ℕ) × IsCommandOf s run t j) × ((r : Valuation) × Steps s.model q (inputs_at s run t) r)
  command_is n t q h less starts = elim (is_command s run t) [
    | inl is ↦ elim (steps_told s.model q (inputs_at s run t)) [
      | inl steps ↦ (is, steps)
      | inr stuck ↦ absurd (none t no_step (record { ended = n; q = q; is_state = h; within = less; starts = starts; none = λ x. stuck x.1 }))
    ]
    | inr no_command ↦ absurd (none t no_step (record { ended = n; q = q; is_state = h; within = less; starts = starts; none = λ x. no_command x.0 }))
  ]

  -- each instruction has one entry
  bound_above : (j : ℕ) (e : InstructionMap) → IsMapEntry s j e → 1 ≤ e.bound
  bound_above j e is =
      let c = complete j is.0 is.1 in
      subst (λ (y : InstructionMap). 1 ≤ y.bound) (some_same (sym c.1 ∙ is.2)) c.2

  -- A command without a commit in its bound has a cycle in which that disagrees.
  no_late : (n t j : ℕ) (q : Valuation) (e : InstructionMap) → HasState s run cycles n q t → StartsAt s run t → IsCommandOf s run t j → IsMapEntry s j e
      → t + e.bound ≤ cycles → ((u : ℕ) → t ≤ u → u < t + e.bound → ¬ CommitsAt s run j u) → ⊥
  no_late n t j q e h starts is entry past open_to = late e.bound refl (bound_above j e entry)
    where
      late : (b : ℕ) → e.bound ≡ b → 1 ≤ b → ⊥
      late zero same above = omega (arith, above)
      late (suc b) same above =
          none (t + b) (past_bound j) (record {
            ended = n;
            begun = t;
            q = q;
            entry = e;
            is_state = h;
            starts = starts;
            is_command = is;
            is_entry = entry;
            from = omega arith;
            is_last = omega (arith, same);
            within = omega (arith, same, past);
            not_ended = λ u from to. open_to u from (omega (arith, to, same));
          })

  ended_is : (n t j c : ℕ) (q : Valuation) (e : InstructionMap) → HasState s run cycles n q t → StartsAt s run t → IsCommandOf s run t j
      → IsMapEntry s j e → EndsAt s run j t c → c < cycles → c < t + e.bound
  ended_is n t j c q e h starts is entry end less = elim (low_or_high c (t + e.bound)) [
    | inl low ↦ low
    | inr high ↦ absurd (no_late n t j q e h starts is entry (omega (arith, less, high)) (λ u from below. end.first u from (omega (arith, below, high))))
  ]
    where
      low_or_high : (a b : ℕ) → (a < b) ⊎ (b ≤ a)
      low_or_high a b = grind arith

  open_is : (n t j : ℕ) (q : Valuation) (e : InstructionMap) → HasState s run cycles n q t → t < cycles → StartsAt s run t → IsCommandOf s run t j
      → IsMapEntry s j e → ((u : ℕ) → t ≤ u → u < cycles → ¬ CommitsAt s run j u) → cycles < t + e.bound
  open_is n t j q e h less starts is entry open_to = elim (low_or_high cycles (t + e.bound)) [
    | inl low ↦ low
    | inr high ↦ absurd (no_late n t j q e h starts is entry high (λ u from below. open_to u from (omega (arith, below, high))))
  ]
    where
      low_or_high : (a b : ℕ) → (a < b) ⊎ (b ≤ a)
      low_or_high a b = grind arith

  state_is : (n t : ℕ) (q : Valuation) → HasState s run cycles n q t → t ≤ cycles → SameStates s.model (state_at s run t) q
  state_is n t q h le c known = by_state (state_named (states_of s.model.top) c) refl (subst (λ o. IsTrue (is_some o)) refl known)
    where
      by_state : (o : Option StateDeclaration) → state_named (states_of s.model.top) c ≡ o → IsTrue (is_some o) → state_at s run t c ≡ q c
      by_state None e k = absurd (false≢true k)
      by_state (Some d) e k = elim (values_told (state_at s run t c) (q c)) [
        | inl same ↦ same
        | inr differs ↦
            let f = found_at (states_of s.model.top) c d e in
            absurd (none t (other_state f.place) (record {
              state = d;
              ended = n;
              q = q;
              is_model_state = h;
              within = le;
              is_state = f.is_there;
              differs = subst (λ x. state_at s run t x ≢ q x) (sym f.is_called) differs;
            }))
      ]

pub agreeing_runs_refine : AgreeingRunsRefine
agreeing_runs_refine s run cycles complete none = record {
  initial = λ le. initial_is s run cycles complete none le;
  command = λ n t q h less starts. command_is s run cycles complete none n t q h less starts;
  ended = λ n t j c q e h starts is entry end less. ended_is s run cycles complete none n t j c q e h starts is entry end less;
  open_command = λ n t j q e h less starts is entry open_to. open_is s run cycles complete none n t j q e h less starts is entry open_to;
  state = λ n t q h le. state_is s run cycles complete none n t q h le;
}
