-- A child program in a child program, in each emitted module of a small model.
use Rattle.std.proofs.Common.{◌≡◌, ℕ, zero, suc, ◌<◌, inl, List, [], ◌∷◌, Some, true, arith, refl, sym, ◌∙◌, ap, subst}
use Rattle.std.specs.Prelude.{slice_get, IsFalse}
use Rattle.wb_values.specs.Value.{truth, truth_value, as_truth, Valuation}
use Rattle.model_meaning.specs.Term as term
use Rattle.model_meaning.specs.Term.{complement, term_width}
use Rattle.model_meaning.specs.Model.{Machine, Instruction, valid_of, holds}
use Rattle.verilog_trees.specs.Syntax.{Module}
use Rattle.refinement.specs.Map.{Setting}
use Rattle.refinement.specs.Run.{Run, IsResetAt}
use Rattle.refinement.specs.Refinement.{state_at, inputs_at, StartsAt, IsCommandOf}
use Rattle.emitted_designs.specs.Map.{setting_of}
use Rattle.emitted_designs.specs.MicroStep.{begun, MicroStep}
use Rattle.emitted_designs.specs.Cycles.{HasCommitAt, start_point, held_point, HoldPoint, IsStartOf, EdgeLeads, AreRunning, EndsIn, FollowsModel}
use Rattle.emitted_designs.specs.Worked.{position, flag, data_name, step_once, once, outer_flag, outer, around_once, look, nester, InnerChildEndsAlone}

only_one : (k : ℕ) (o : Instruction) → slice_get (look ∷ []) k ≡ Some o → look ≡ o
only_one zero o e = cc
only_one (suc k) o e = cc

module _ (x : Module) (run : Run) (cycles t : ℕ) (follows : FollowsModel (setting_of nester x) run cycles) (low : suc (suc (suc (suc t))) < cycles)
    (quiet : (u : ℕ) → ¬ IsResetAt (setting_of nester x) run u) (starts : StartsAt (setting_of nester x) run t) where
  abbrev s : Setting
  s = setting_of nester x

  low_0 : t < cycles
  low_0 = omega (arith, low)

  abbrev outside : List Machine
  outside = around_once ∷ []

  abbrev inside : List Machine
  inside = once ∷ around_once ∷ []

  start_of : IsStartOf s run t look
  start_of =
      let c : (j : ℕ) × IsCommandOf s run t j = ((follows.start t low_0).0 starts).2 in
      subst (IsStartOf s run t) (sym (only_one c.0 c.1.alone.i c.1.alone.is_j))
      (record { number = c.0; starts = starts; is_command = c.1; is_instruction = c.1.alone.is_j })

  run_0 : AreRunning s run t []
  run_0 = AreRunning.at_rest t ((follows.start t low_0).0 starts).1

  lead_0 : EdgeLeads s run t [] outside (begun look (start_point s run t))
  lead_0 = EdgeLeads.starts look start_of

  -- what an edge makes: the programs that run, and the point that the registers hold
  next_runs : (u : ℕ) (ps qs : List Machine) (q : Valuation) → AreRunning s run u ps → EdgeLeads s run u ps qs q → AreRunning s run (suc u) qs
  next_runs u ps qs q r l = AreRunning.after_edge u ps qs q r (quiet u) l

  next_holds : (u : ℕ) (ps qs : List Machine) (q : Valuation) → u < cycles → AreRunning s run u ps → EdgeLeads s run u ps qs q
      → HoldPoint s run (suc u) qs q
  next_holds u ps qs q within r l = follows.edge u ps qs q within (quiet u) r l

  run_1 : AreRunning s run (suc t) outside
  run_1 = next_runs t [] outside (begun look (start_point s run t)) run_0 lead_0

  held_1 : HoldPoint s run (suc t) outside (begun look (start_point s run t))
  held_1 = next_holds t [] outside (begun look (start_point s run t)) low_0 run_0 lead_0

  lead_1 : EdgeLeads s run (suc t) outside inside (begun outer (held_point s run (suc t)))
  lead_1 =
      EdgeLeads.goes_on around_once [] inside (begun outer (held_point s run (suc t)))
      (MicroStep.does outer (ap (λ v. as_truth (complement (term_width (term.name outer_flag truth)) v)) (held_1 outer_flag refl)) (inl (refl, tt, refl)))

  run_2 : AreRunning s run (suc (suc t)) inside
  run_2 = next_runs (suc t) outside inside (begun outer (held_point s run (suc t))) run_1 lead_1

  held_2 : HoldPoint s run (suc (suc t)) inside (begun outer (held_point s run (suc t)))
  held_2 = next_holds (suc t) outside inside (begun outer (held_point s run (suc t))) (omega (arith, low)) run_1 lead_1

  lead_2 : EdgeLeads s run (suc (suc t)) inside inside (begun step_once (held_point s run (suc (suc t))))
  lead_2 =
      EdgeLeads.goes_on once outside inside (begun step_once (held_point s run (suc (suc t))))
      (MicroStep.does step_once (ap (λ v. as_truth (complement (term_width (term.name flag truth)) v)) (held_2 flag refl)) (inl (refl, tt, refl)))

  run_3 : AreRunning s run (suc (suc (suc t))) inside
  run_3 = next_runs (suc (suc t)) inside inside (begun step_once (held_point s run (suc (suc t)))) run_2 lead_2

  held_3 : HoldPoint s run (suc (suc (suc t))) inside (begun step_once (held_point s run (suc (suc t))))
  held_3 = next_holds (suc (suc t)) inside inside (begun step_once (held_point s run (suc (suc t)))) (omega (arith, low)) run_2 lead_2

  lead_3 : EdgeLeads s run (suc (suc (suc t))) inside outside (held_point s run (suc (suc (suc t))))
  lead_3 =
      EdgeLeads.goes_on once outside outside (held_point s run (suc (suc (suc t))))
      (MicroStep.ends (ap (λ v. as_truth (complement (term_width (term.name flag truth)) v)) (held_3 flag refl)))

  run_4 : AreRunning s run (suc (suc (suc (suc t)))) outside
  run_4 = next_runs (suc (suc (suc t))) inside outside (held_point s run (suc (suc (suc t)))) run_3 lead_3

  held_4 : HoldPoint s run (suc (suc (suc (suc t)))) outside (held_point s run (suc (suc (suc t))))
  held_4 = next_holds (suc (suc (suc t))) inside outside (held_point s run (suc (suc (suc t)))) (omega (arith, low)) run_3 lead_3

  outer_set : held_point s run (suc (suc (suc (suc t)))) outer_flag ≡ truth_value true
  outer_set = held_4 outer_flag refl ∙ (held_3 outer_flag refl ∙ held_2 outer_flag refl)

  invalid_4 : IsFalse (holds (valid_of around_once) (held_point s run (suc (suc (suc (suc t))))))
  invalid_4 = ap (λ v. as_truth (complement (term_width (term.name outer_flag truth)) v)) outer_set

  lead_4 : EdgeLeads s run (suc (suc (suc (suc t)))) outside [] (held_point s run (suc (suc (suc (suc t)))))
  lead_4 = EdgeLeads.goes_on around_once [] [] (held_point s run (suc (suc (suc (suc t))))) (MicroStep.ends invalid_4)

  held_5 : HoldPoint s run (suc (suc (suc (suc (suc t))))) [] (held_point s run (suc (suc (suc (suc t)))))
  held_5 = next_holds (suc (suc (suc (suc t)))) outside [] (held_point s run (suc (suc (suc (suc t))))) low run_4 lead_4

  no_end : EndsIn s run (suc (suc (suc t))) inside → ⊥
  no_end e = elim e [ ]

  pub ends_alone : ¬ HasCommitAt s run (suc (suc (suc t))) × HasCommitAt s run (suc (suc (suc (suc t)))) × (state_at s run (suc (suc (suc (suc (suc t))))) position ≡ inputs_at s run t data_name)
  ends_alone = (
    (λ c. no_end ((follows.commit (suc (suc (suc t))) inside (omega (arith, low)) run_3).0 c)),
    (follows.commit (suc (suc (suc (suc t)))) outside low run_4).1 (EndsIn.with_its_child around_once (quiet (suc (suc (suc (suc t))))) invalid_4),
    held_5 position refl ∙ (held_4 position refl ∙ (held_3 position refl ∙ (held_2 data_name refl ∙ held_1 data_name refl))),
  )

pub inner_child_ends_alone : InnerChildEndsAlone
inner_child_ends_alone x run cycles t emitted is_run low quiet starts =
    ends_alone x run cycles t (emitted.runs run cycles is_run) low quiet starts
