-- Where a run does not do what its model does.
use Rattle.std.specs.Prelude.{◌≡◌, ◌≢◌, ℕ, suc, ◌+◌, ◌<◌, ◌≤◌, Some, slice_get, ⊤}
use Rattle.wb_values.specs.Value.{Value, Valuation}
use Rattle.model_meaning.specs.Model.{StateDeclaration, states_of}
use Rattle.model_meaning.specs.Instruction.{Steps}
use Rattle.refinement.specs.Map.{Setting, InstructionMap}
use Rattle.refinement.specs.Run.{Run}
use Rattle.refinement.specs.Refinement.{state_at, inputs_at, StartsAt, IsMapEntry, CommitsAt, IsCommandOf, HasState}

-- In their order; states and instructions go by their numbers in the model: a state without its stated initial value, a start without an
-- instruction or a next state, a command that has not ended within its bound, a state with another value than the model's.
pub data Disagreement : Type 0 where
  initial_value : (k : ℕ) → Disagreement
  no_step : Disagreement
  past_bound : (j : ℕ) → Disagreement
  other_state : (k : ℕ) → Disagreement

-- At the end of the reset state number k has another value than the stated one.
pub record IsOtherInitial (s : Setting) (run : Run) (cycles t k : ℕ) : Type 0 where
  pub state : StateDeclaration
  pub value : Value
  pub at_reset : t ≡ s.map.reset_cycles
  pub within : t ≤ cycles
  pub is_state : slice_get (states_of s.model.top) k ≡ Some state
  pub stated : state.init ≡ Some value
  pub differs : state_at s run t state.state_name ≢ value

-- At a start in an idle cycle no instruction decodes alone where the model is valid, or the model has no next state.
pub record HasNoStep (s : Setting) (run : Run) (cycles t : ℕ) : Type 0 where
  pub ended : ℕ
  pub q : Valuation
  pub is_state : HasState s run cycles ended q t
  pub within : t < cycles
  pub starts : StartsAt s run t
  pub none : ¬ (((j : ℕ) × IsCommandOf s run t j) × ((r : Valuation) × Steps s.model q (inputs_at s run t) r))

-- Cycle t is the last of the bound of a command of instruction number j, which has not ended, at t neither.
pub record IsPastBound (s : Setting) (run : Run) (cycles t j : ℕ) : Type 0 where
  pub ended : ℕ
  pub begun : ℕ
  pub q : Valuation
  pub entry : InstructionMap
  pub is_state : HasState s run cycles ended q begun
  pub starts : StartsAt s run begun
  pub is_command : IsCommandOf s run begun j
  pub is_entry : IsMapEntry s j entry
  pub from : begun ≤ t
  pub is_last : suc t ≡ begun + entry.bound
  pub within : t < cycles
  pub not_ended : (u : ℕ) → begun ≤ u → u ≤ t → ¬ CommitsAt s run j u

-- At an idle cycle state number k has another value than the model's.
pub record IsOtherState (s : Setting) (run : Run) (cycles t k : ℕ) : Type 0 where
  pub state : StateDeclaration
  pub ended : ℕ
  pub q : Valuation
  pub is_model_state : HasState s run cycles ended q t
  pub within : t ≤ cycles
  pub is_state : slice_get (states_of s.model.top) k ≡ Some state
  pub differs : state_at s run t state.state_name ≢ q state.state_name

-- The run of so many cycles disagrees so at cycle t.
abbrev pub DisagreesAt : Setting → Run → (cycles t : ℕ) → Disagreement → Type 0
DisagreesAt s run cycles t (initial_value k) = IsOtherInitial s run cycles t k
DisagreesAt s run cycles t no_step = HasNoStep s run cycles t
DisagreesAt s run cycles t (past_bound j) = IsPastBound s run cycles t j
DisagreesAt s run cycles t (other_state k) = IsOtherState s run cycles t k

-- One disagreement comes before another at the same cycle.
abbrev pub StandsBefore : Disagreement → Disagreement → Type 0
StandsBefore (initial_value k) (initial_value l) = k < l
StandsBefore (initial_value k) _ = ⊤
StandsBefore no_step (past_bound l) = ⊤
StandsBefore no_step (other_state l) = ⊤
StandsBefore (past_bound k) (past_bound l) = k < l
StandsBefore (past_bound k) (other_state l) = ⊤
StandsBefore (other_state k) (other_state l) = k < l
StandsBefore _ _ = ⊥

-- The first disagreement of the run: at the least cycle, and of several there the first.
pub record IsFirstDisagreement (s : Setting) (run : Run) (cycles t : ℕ) (which : Disagreement) : Type 0 where
  pub disagrees : DisagreesAt s run cycles t which
  pub least : (u : ℕ) (other : Disagreement) → u < t → ¬ DisagreesAt s run cycles u other
  pub first : (other : Disagreement) → StandsBefore other which → ¬ DisagreesAt s run cycles t other
