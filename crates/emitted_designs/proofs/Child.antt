-- A child program in each emitted module of a small model.
use Rattle.std.proofs.Common.{◌≡◌, ℕ, zero, suc, ◌<◌, inl, [], ◌∷◌, Some, true, false, arith, refl, sym, ◌∙◌, ap, subst}
use Rattle.std.specs.Prelude.{slice_get, IsTrue, IsFalse}
use Rattle.std.proofs.lemmas.Bool.{false≢true}
use Rattle.wb_values.specs.Value.{truth, truth_value, as_truth}
use Rattle.model_meaning.specs.Term as term
use Rattle.model_meaning.specs.Term.{complement, term_width}
use Rattle.model_meaning.specs.Model.{Instruction, valid_of, holds}
use Rattle.verilog_trees.specs.Syntax.{Module}
use Rattle.refinement.specs.Map.{Setting}
use Rattle.refinement.specs.Run.{Run, IsResetAt}
use Rattle.refinement.specs.Refinement.{state_at, inputs_at, StartsAt, IsCommandOf}
use Rattle.emitted_designs.specs.Map.{setting_of}
use Rattle.emitted_designs.specs.MicroStep.{begun, entered_by, MicroStep}
use Rattle.emitted_designs.specs.Cycles.{HasCommitAt, IsAtRest, start_point, held_point, HoldPoint, IsStartOf, EdgeLeads, AreRunning, EndsIn, FollowsModel}
use Rattle.emitted_designs.specs.Worked.{position, flag, data_name, step_once, take_once, taker, once, ChildRuns, ResetEndsNothing}

only_one : (k : ℕ) (o : Instruction) → slice_get (take_once ∷ []) k ≡ Some o → take_once ≡ o
only_one zero o e = cc
only_one (suc k) o e = cc

not_none : once ∷ [] ≡ [] → ⊥
not_none e = cc

module _ (x : Module) (run : Run) (cycles t : ℕ) (follows : FollowsModel (setting_of taker x) run cycles) (low : suc (suc t) < cycles)
    (quiet : ¬ IsResetAt (setting_of taker x) run t) (quiet_1 : ¬ IsResetAt (setting_of taker x) run (suc t))
    (starts : StartsAt (setting_of taker x) run t) where
  abbrev s : Setting
  s = setting_of taker x

  low_0 : t < cycles
  low_0 = omega (arith, low)

  low_1 : suc t < cycles
  low_1 = omega (arith, low)

  rests : IsAtRest s run t
  rests = ((follows.start t low_0).0 starts).1

  start_of : IsStartOf s run t take_once
  start_of =
      let c : (j : ℕ) × IsCommandOf s run t j = ((follows.start t low_0).0 starts).2 in
      subst (IsStartOf s run t) (sym (only_one c.0 c.1.alone.i c.1.alone.is_j))
      (record { number = c.0; starts = starts; is_command = c.1; is_instruction = c.1.alone.is_j })

  run_0 : AreRunning s run t []
  run_0 = AreRunning.at_rest t rests

  lead_0 : EdgeLeads s run t [] (once ∷ []) (begun take_once (start_point s run t))
  lead_0 = EdgeLeads.starts take_once start_of

  run_1 : AreRunning s run (suc t) (once ∷ [])
  run_1 = AreRunning.after_edge t [] (once ∷ []) (begun take_once (start_point s run t)) run_0 quiet lead_0

  held_1 : HoldPoint s run (suc t) (once ∷ []) (begun take_once (start_point s run t))
  held_1 = follows.edge t [] (once ∷ []) (begun take_once (start_point s run t)) low_0 quiet run_0 lead_0

  flag_1 : held_point s run (suc t) flag ≡ truth_value false
  flag_1 = held_1 flag refl

  data_1 : held_point s run (suc t) data_name ≡ inputs_at s run t data_name
  data_1 = held_1 data_name refl

  valid_1 : IsTrue (holds (valid_of once) (held_point s run (suc t)))
  valid_1 = ap (λ v. as_truth (complement (term_width (term.name flag truth)) v)) flag_1

  lead_1 : EdgeLeads s run (suc t) (once ∷ []) (once ∷ []) (begun step_once (held_point s run (suc t)))
  lead_1 =
      EdgeLeads.goes_on once [] (once ∷ []) (begun step_once (held_point s run (suc t)))
      (MicroStep.does step_once valid_1 (inl (refl, tt, refl)))

  run_2 : AreRunning s run (suc (suc t)) (once ∷ [])
  run_2 = AreRunning.after_edge (suc t) (once ∷ []) (once ∷ []) (begun step_once (held_point s run (suc t))) run_1 quiet_1 lead_1

  held_2 : HoldPoint s run (suc (suc t)) (once ∷ []) (begun step_once (held_point s run (suc t)))
  held_2 = follows.edge (suc t) (once ∷ []) (once ∷ []) (begun step_once (held_point s run (suc t))) low_1 quiet_1 run_1 lead_1

  flag_2 : held_point s run (suc (suc t)) flag ≡ truth_value true
  flag_2 = held_2 flag refl

  invalid_2 : IsFalse (holds (valid_of once) (held_point s run (suc (suc t))))
  invalid_2 = ap (λ v. as_truth (complement (term_width (term.name flag truth)) v)) flag_2

  no_end_0 : EndsIn s run t [] → ⊥
  no_end_0 (EndsIn.at_its_start i h e) =
      not_none (subst (λ j. entered_by j ≡ []) (sym (only_one h.number i h.is_instruction)) e)

  no_end_1 : EndsIn s run (suc t) (once ∷ []) → ⊥
  no_end_1 (EndsIn.with_its_child program no_reset e) = false≢true (sym e ∙ valid_1)

  no_start : (u : ℕ) → u < cycles → AreRunning s run u (once ∷ []) → ¬ StartsAt s run u
  no_start u within running again =
      not_none ((follows.busy u (once ∷ []) (omega (arith, within)) running).0 ((follows.start u within).0 again).1)

  pub at_reset : IsResetAt s run (suc (suc t)) → ¬ HasCommitAt s run (suc (suc t)) × IsAtRest s run (suc (suc (suc t)))
      × (state_at s run (suc (suc (suc t))) position ≡ truth_value false)
  at_reset resets = (
    (λ c. no_end ((follows.commit (suc (suc t)) (once ∷ []) low run_2).0 c)),
    (follows.busy (suc (suc (suc t))) [] (omega (arith, low)) (AreRunning.after_reset (suc (suc t)) resets)).1 refl,
    follows.reset (suc (suc t)) low resets position _ (truth_value false) refl refl,
  )
    where
      no_end : EndsIn s run (suc (suc t)) (once ∷ []) → ⊥
      no_end (EndsIn.with_its_child program no_reset e) = no_reset resets

  module _ (quiet_2 : ¬ IsResetAt s run (suc (suc t))) where
    lead_2 : EdgeLeads s run (suc (suc t)) (once ∷ []) [] (held_point s run (suc (suc t)))
    lead_2 = EdgeLeads.goes_on once [] [] (held_point s run (suc (suc t))) (MicroStep.ends invalid_2)

    run_3 : AreRunning s run (suc (suc (suc t))) []
    run_3 = AreRunning.after_edge (suc (suc t)) (once ∷ []) [] (held_point s run (suc (suc t))) run_2 quiet_2 lead_2

    held_3 : HoldPoint s run (suc (suc (suc t))) [] (held_point s run (suc (suc t)))
    held_3 = follows.edge (suc (suc t)) (once ∷ []) [] (held_point s run (suc (suc t))) low quiet_2 run_2 lead_2

    pub goes : ¬ HasCommitAt s run t × ¬ HasCommitAt s run (suc t) × ¬ StartsAt s run (suc t) × ¬ StartsAt s run (suc (suc t))
        × HasCommitAt s run (suc (suc t)) × IsAtRest s run (suc (suc (suc t)))
        × (state_at s run (suc (suc (suc t))) position ≡ inputs_at s run t data_name)
    goes = (
      (λ c. no_end_0 ((follows.commit t [] low_0 run_0).0 c)),
      (λ c. no_end_1 ((follows.commit (suc t) (once ∷ []) low_1 run_1).0 c)),
      no_start (suc t) low_1 run_1,
      no_start (suc (suc t)) low run_2,
      (follows.commit (suc (suc t)) (once ∷ []) low run_2).1 (EndsIn.with_its_child once quiet_2 invalid_2),
      (follows.busy (suc (suc (suc t))) [] (omega (arith, low)) run_3).1 refl,
      held_3 position refl ∙ (held_2 position refl ∙ data_1),
    )

pub child_runs : ChildRuns
child_runs x run cycles t emitted is_run low quiet quiet_1 quiet_2 starts =
    goes x run cycles t (emitted.runs run cycles is_run) low quiet quiet_1 starts quiet_2

pub reset_ends_nothing : ResetEndsNothing
reset_ends_nothing x run cycles t emitted is_run low quiet quiet_1 resets starts =
    at_reset x run cycles t (emitted.runs run cycles is_run) low quiet quiet_1 starts resets
