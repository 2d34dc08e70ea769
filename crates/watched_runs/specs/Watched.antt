-- What is said of a run that is watched beside its model.
use Rattle.std.specs.Prelude.{◌≡◌, ℕ, zero, ◌<◌, ◌≤◌, List, [], ◌∷◌, ◌++◌, Some, slice_get, codes, decimal}
use Rattle.model_meaning.specs.Model.{StateDeclaration, Instruction, instruction_name, states_of}
use Rattle.model_meaning.specs.Instruction.{IsInstruction}
use Rattle.refinement.specs.Map.{Setting}
use Rattle.refinement.specs.Run.{Run}
use Rattle.refinement.specs.Refinement.{IsIdle, Refines}
use Rattle.watched_runs.specs.Premises.{Premise, of_reset, of_assumption, of_flight, HavePremises, IsPremiseEnd, IsFirstFailing}
use Rattle.watched_runs.specs.Disagreements.{Disagreement, initial_value, no_step, past_bound, other_state, IsFirstDisagreement}

pub data Watched : Type 0 where
  agrees : (commands : ℕ) → Watched
  outside : (cycle : ℕ) → Premise → Watched
  disagrees : (cycle : ℕ) → Disagreement → Watched

-- How many commands have ended within the run: none where its reset is not over, else as many as before the last idle cycle.
pub data HasEnded (s : Setting) (run : Run) (cycles : ℕ) : ℕ → Type 0 where
  in_reset : cycles < s.map.reset_cycles → HasEnded s run cycles zero
  at_last : (n t : ℕ) → IsIdle s run cycles n t → ((m u : ℕ) → IsIdle s run cycles m u → m ≤ n) → HasEnded s run cycles n

-- The answer for a run of so many cycles. Refinement is asked of its first p cycles, those before a premise fails: where they do not refine
-- the model, it is their first disagreement; else, where p is a cycle of the run, that and the first premise that fails at it; else how
-- many commands have ended.
pub data IsWatched (s : Setting) (run : Run) (cycles : ℕ) : Watched → Type 0 where
  it_disagrees : (p t : ℕ) (which : Disagreement) → IsPremiseEnd s run cycles p → ¬ Refines s run p → IsFirstDisagreement s run p t which
      → IsWatched s run cycles (disagrees t which)
  it_is_outside : (p : ℕ) (premise : Premise) → IsPremiseEnd s run cycles p → p < cycles → Refines s run p → IsFirstFailing s run p premise
      → IsWatched s run cycles (outside p premise)
  it_agrees : (n : ℕ) → HavePremises s run cycles → Refines s run cycles → HasEnded s run cycles n → IsWatched s run cycles (agrees n)

-- ---- the line that is written

abbrev pub premise_text : Premise → List ℕ
premise_text of_reset = codes "reset"
premise_text (of_assumption k) = codes "assume " ++ decimal k
premise_text of_flight = codes "flight"

-- the text of a disagreement, with the name of its state or its instruction
pub data IsDisagreementText (s : Setting) : Disagreement → List ℕ → Type 0 where
  of_initial_value : (k : ℕ) (d : StateDeclaration) → slice_get (states_of s.model.top) k ≡ Some d
      → IsDisagreementText s (initial_value k) (codes "init " ++ d.state_name)
  of_no_step : IsDisagreementText s no_step (codes "step")
  of_past_bound : (j : ℕ) (i : Instruction) → IsInstruction s.model j i → IsDisagreementText s (past_bound j) (codes "bound " ++ instruction_name i)
  of_other_state : (k : ℕ) (d : StateDeclaration) → slice_get (states_of s.model.top) k ≡ Some d
      → IsDisagreementText s (other_state k) (codes "state " ++ d.state_name)

-- `agrees N`, `outside CYCLE WHICH` or `disagrees CYCLE WHICH`
pub data IsWatchedLine (s : Setting) : Watched → List ℕ → Type 0 where
  line_agrees : (n : ℕ) → IsWatchedLine s (agrees n) (codes "agrees " ++ decimal n ++ 10 ∷ [])
  line_outside : (t : ℕ) (p : Premise) → IsWatchedLine s (outside t p) (codes "outside " ++ decimal t ++ 32 ∷ (premise_text p ++ 10 ∷ []))
  line_disagrees : (t : ℕ) (d : Disagreement) (text : List ℕ) → IsDisagreementText s d text
      → IsWatchedLine s (disagrees t d) (codes "disagrees " ++ decimal t ++ 32 ∷ (text ++ 10 ∷ []))
