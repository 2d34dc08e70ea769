-- What the values of a run show, said of the run.
use Rattle.std.proofs.Common.{◌≡◌, ◌∙◌, ℕ, zero, suc, Bool, List, [], ◌∷◌, map, take, Option, Some, None, refl, sym, ap, subst, arith}
use Rattle.std.specs.Prelude.{All, IsTrue, ◌↔◌, slice_get}
use Rattle.std.proofs.lemmas.List.Elements.{All-tail}
use Rattle.std.proofs.lemmas.Option.{none-some, same_Some}
use Rattle.model_meaning.specs.Model.{Model}
use Rattle.refinement.specs.Map.{Setting}
use Rattle.refinement.specs.Run.{Run}
use Rattle.refinement.specs.Obligation.{Fact, Means, MeansAll}
use Rattle.obligation_lists.specs.declared.claims.MapCounts.{MapCounts}
use Rattle.obligation_lists.specs.declared.claims.Obligation.{Obligation}
use Rattle.obligation_lists.specs.Claims.{fact_of, hypotheses_of, obligation_of}
use Rattle.wb_terms.specs.Environment.{AreOfSorts}
use Rattle.v_design.specs.Seen.{register_values, input_values}
use Rattle.v_design.specs.Parts.{Parts, registers_of, inputs_of}
use Rattle.v_design.specs.declared.values.Registers.{Registers}
use Rattle.v_design.specs.declared.values.Inputs.{Inputs}
use Rattle.mapped_designs.specs.Mapped.{Mapped}
use Rattle.mapped_designs.specs.Runs.{AreValuesOf, Shows, ShowsAll}
use Rattle.mapped_runs.specs.Valued.{IsWithin, AreWithin, RunsShow}
use Rattle.mapped_runs.specs.Existing.{ValuesHaveRuns}
use Rattle.shown_facts.specs.Values.{inputs_given, values_given}
use Rattle.shown_facts.proofs.Noting.{zeros_fit}
use Rattle.trace_files.specs.Replay as pure
use Rattle.trace_files.specs.Replay.{IsSo}
use Rattle.trace_replay.specs.Found.{IsFirstFailing}
use Rattle.trace_replay.specs.Replayed.{IsSettingOf, IsGivenRun, IsSoIn, HasRunFrom}

within_there : (n : ℕ) (fs : List Fact) (k : ℕ) (f : Fact) → AreWithin n fs → slice_get fs k ≡ Some f → IsWithin n f
within_there n [] k f h e = absurd (none-some f e)
within_there n (g ∷ fs) zero f h e = subst (IsWithin n) (same_Some g f e) h.0
within_there n (g ∷ fs) (suc k) f h e = within_there n fs k f h.1 e

within_front : (n : ℕ) (fs : List Fact) (k : ℕ) → AreWithin n fs → AreWithin n (take k fs)
within_front n fs zero h = tt
within_front n [] (suc k) h = tt
within_front n (g ∷ fs) (suc k) h = (h.0, within_front n fs k h.1)

module _ (law : RunsShow) (m : Model) (e : Mapped) (counts : MapCounts) (o : Obligation) (r : Registers) (is : List Inputs) (s : Setting) (run : Run)
    (set : IsSettingOf m e counts o s) (given : IsGivenRun e o r is s run) where
  fact_said : (f : Fact) → IsWithin o.cycles f → Means s run f ↔ Shows m e (values_given e.parts r is) f
  fact_said f l =
      subst (λ n. Means s run f ↔ Shows n e (values_given e.parts r is) f) set.model
      (law s e run o.cycles (values_given e.parts r is) f set.mapped set.sound given.is_run given.values l)

  facts_said : (fs : List Fact) → AreWithin o.cycles fs → MeansAll s run fs ↔ ShowsAll m e (values_given e.parts r is) fs
  facts_said [] l = (λ h. h, λ h. h)
  facts_said (f ∷ fs) l =
      let here = fact_said f l.0 in
      let rest = facts_said fs l.1 in
      (λ h. (here.0 h.0, rest.0 h.1), λ h. (here.1 h.0, rest.1 h.1))

  -- the first hypothesis that is not shown does not hold
  pub failing_said : (k : ℕ) → IsFirstFailing m e (values_given e.parts r is) (hypotheses_of s.map o.hypotheses) (Some k)
      → IsSo s run (obligation_of s.map o) (pure.hypothesis_fails k)
  failing_said k h =
      let fs = hypotheses_of s.map o.hypotheses in
      let within : AreWithin o.cycles fs = set.within.hypotheses in (
        (facts_said (take k fs) (within_front o.cycles fs k within)).1 h.0,
        h.1,
        h.2,
        λ means. h.3 ((fact_said h.1 (within_there o.cycles fs k h.1 within h.2)).0 means),
      )

  pub holding_said : (b : Bool) → IsFirstFailing m e (values_given e.parts r is) (hypotheses_of s.map o.hypotheses) None
      → IsTrue b ↔ Shows m e (values_given e.parts r is) (fact_of o.claim) → IsTrue b → IsSo s run (obligation_of s.map o) pure.obligation_holds
  holding_said b h told t =
      ((facts_said (hypotheses_of s.map o.hypotheses) set.within.hypotheses).1 h, (fact_said (fact_of o.claim) set.within.claim).1 (told.0 t))

  pub falsifying_said : (b : Bool) → IsFirstFailing m e (values_given e.parts r is) (hypotheses_of s.map o.hypotheses) None
      → IsTrue b ↔ Shows m e (values_given e.parts r is) (fact_of o.claim) → (IsTrue b → ⊥) → IsSo s run (obligation_of s.map o) pure.falsifies
  falsifying_said b h told f = (
    (facts_said (hypotheses_of s.map o.hypotheses) set.within.hypotheses).1 h,
    λ means. f (told.1 ((fact_said (fact_of o.claim) set.within.claim).0 means)),
  )

-- ---- runs that there are

inputs_fit : (d : Parts) (is : List Inputs) → All (λ (i : Inputs). AreOfSorts (inputs_of d) (input_values i)) is → (t : ℕ) → AreOfSorts (inputs_of d) (inputs_given d is t)
inputs_fit d [] h t = zeros_fit (inputs_of d)
inputs_fit d (i ∷ is) h zero = h 0 i (omega arith)
inputs_fit d (i ∷ is) h (suc t) = inputs_fit d is (All-tail (λ (j : Inputs). AreOfSorts (inputs_of d) (input_values j)) i is h) t

-- where there is a run from the registers, what is told of all such runs is told of it
pub so_in : (law : ValuesHaveRuns) (m : Model) (e : Mapped) (counts : MapCounts) (o : Obligation) (r : Registers) (is : List Inputs) (answer : pure.Replayed)
    → AreOfSorts (registers_of e.parts) (register_values r) → All (λ (i : Inputs). AreOfSorts (inputs_of e.parts) (input_values i)) is
    → ((s : Setting) (run : Run) → IsSettingOf m e counts o s → IsGivenRun e o r is s run → IsSo s run (obligation_of s.map o) answer)
    → (s : Setting) → IsSettingOf m e counts o s → HasRunFrom e r s → IsSoIn e o r is s answer
so_in law m e counts o r is answer registers inputs told s set from =
    let values : AreValuesOf e.parts (values_given e.parts r is) = record { first = registers; inputs = inputs_fit e.parts is inputs } in
    let there = law s e.parts (values_given e.parts r is) from.accepted from.of_text set.mapped.design set.sound values from.rest in
    let given : IsGivenRun e o r is s there.0 = record { is_run = (there.1 o.cycles).0; values = (there.1 o.cycles).1 } in
    (there.0, given, told s there.0 set given)
