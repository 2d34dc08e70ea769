-- Where a watch of a run stands before a cycle, and what it has seen by then.
use Rattle.std.specs.Prelude.{ℕ, ◌+◌, ◌<◌, ◌≤◌}
use Rattle.wb_values.specs.Value.{Valuation}
use Rattle.model_meaning.specs.Instruction.{Steps}
use Rattle.refinement.specs.Map.{Setting, InstructionMap}
use Rattle.refinement.specs.Run.{Run}
use Rattle.refinement.specs.Refinement.{inputs_at, StartsAt, IsMapEntry, CommitsAt, IsCommandOf, HasState}
use Rattle.watched_runs.specs.Premises.{HavePremises}
use Rattle.watched_runs.specs.Disagreements.{Disagreement, IsOtherInitial, DisagreesAt}

-- In the reset, up to the cycle after its last; after it at an idle cycle, with the number of commands that have ended and the model's
-- state; or inside a command, with the number of those that ended before it, the cycle at which it began, the number of its instruction,
-- and the state to which it leads the model.
pub data WatchPosition : Type 0 where
  in_reset : WatchPosition
  idle : (ended : ℕ) (q : Valuation) → WatchPosition
  running : (ended begun j : ℕ) (r : Valuation) → WatchPosition

-- A command of instruction number j that began before cycle t has not ended before it, its bound lies past t, and it leads the model
-- to state r.
pub record IsRunning (s : Setting) (run : Run) (t ended begun j : ℕ) (r : Valuation) : Type 0 where
  pub q : Valuation
  pub entry : InstructionMap
  pub is_state : HasState s run begun ended q begun
  pub starts : StartsAt s run begun
  pub is_command : IsCommandOf s run begun j
  pub leads : Steps s.model q (inputs_at s run begun) r
  pub is_entry : IsMapEntry s j entry
  pub before : begun < t
  pub not_ended : (u : ℕ) → begun ≤ u → u < t → ¬ CommitsAt s run j u
  pub in_bound : t < begun + entry.bound

-- what the position says of the run
abbrev pub StandsAt : Setting → Run → ℕ → WatchPosition → Type 0
StandsAt s run t in_reset = t ≤ s.map.reset_cycles
StandsAt s run t (idle ended q) = (s.map.reset_cycles < t) × HasState s run t ended q t
StandsAt s run t (running ended begun j r) = IsRunning s run t ended begun j r

-- No cut of the run disagrees with the model before cycle t.
abbrev pub AgreesBefore : Setting → Run → ℕ → Type 0
AgreesBefore s run t = (cycles u : ℕ) (which : Disagreement) → u < t → ¬ DisagreesAt s run cycles u which

-- The watch stands there before cycle t: no premise failed before it, and nothing disagreed.
pub record IsWatchedTo (s : Setting) (run : Run) (t : ℕ) (p : WatchPosition) : Type 0 where
  pub stands : StandsAt s run t p
  pub premises : HavePremises s run t
  pub agrees : AgreesBefore s run t

-- Cycle t is idle, in this state of the model. Nothing disagrees and no premise fails before it; and if it is the cycle after the reset,
-- the stated initial values are there.
pub record IsIdleAt (s : Setting) (run : Run) (t ended : ℕ) (q : Valuation) : Type 0 where
  pub is_state : HasState s run t ended q t
  pub premises : HavePremises s run t
  pub agrees : AgreesBefore s run t
  pub initial : (cycles k : ℕ) → ¬ IsOtherInitial s run cycles t k
