-- The laws: of runs without a disagreement, and of a watch that goes on cycle by cycle and of what it answers at its end.
use Rattle.std.specs.Prelude.{◌≡◌, ◌≢◌, ℕ, suc, ◌+◌, ◌<◌, ◌≤◌, IsTrue, is_some}
use Rattle.wb_values.specs.Value.{Valuation}
use Rattle.model_meaning.specs.Model.{StateDeclaration}
use Rattle.model_meaning.specs.Instruction.{Steps, SameStates}
use Rattle.refinement.specs.Map.{Setting, InstructionMap}
use Rattle.refinement.specs.Run.{Run}
use Rattle.refinement.specs.Refinement.{state_at, inputs_at, StartsAt, IsMapEntry, CommitsAt, IsCommandOf, HasState, Refines}
use Rattle.refinement.specs.Soundness.{IsComplete}
use Rattle.watched_runs.specs.Premises.{Premise, PremiseFails, IsFirstFailing, HavePremises, IsPremiseEnd}
use Rattle.watched_runs.specs.Disagreements.{Disagreement, DisagreesAt, StandsBefore}
use Rattle.watched_runs.specs.Watched.{IsWatched, Watched, agrees, outside, disagrees}
use Rattle.watched_runs.specs.Laws.{StatesAreNamed}
use Rattle.watch_laws.specs.Positions.{WatchPosition, running, IsWatchedTo}

-- A run that disagrees with the model nowhere refines it, where each instruction has its bound.
abbrev pub AgreeingRunsRefine : Type 0
AgreeingRunsRefine =
    (s : Setting) (run : Run) (cycles : ℕ) → IsComplete s → ((t : ℕ) (which : Disagreement) → ¬ DisagreesAt s run cycles t which) → Refines s run cycles

-- Where no premise fails before cycle t, the first one that fails does so at t or later, or none does.
abbrev pub PremisesEnd : Type 0
PremisesEnd =
    (s : Setting) (run : Run) (cycles t : ℕ) → t ≤ cycles → HavePremises s run t → (p : ℕ) × (t ≤ p) × IsPremiseEnd s run cycles p

-- A watch that comes to the end of a run inside a command answers how many have ended.
abbrev pub WatchesEnd : Type 0
WatchesEnd =
    (s : Setting) (run : Run) (cycles ended begun j : ℕ) (r : Valuation) → IsComplete s → IsWatchedTo s run cycles (running ended begun j r)
    → IsWatched s run cycles (agrees ended)
