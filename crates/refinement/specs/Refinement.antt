-- Commands, idle cycles, and what it is for a run to refine the model.
use Rattle.std.specs.Prelude.{◌≡◌, ℕ, suc, ◌+◌, ◌<◌, ◌≤◌, Some}
use Rattle.wb_values.specs.Value.{Name, Value, Valuation}
use Rattle.model_meaning.specs.Model.{Model, Instruction, instruction_name, StateDeclaration, state_named, states_of}
use Rattle.model_meaning.specs.Instruction.{SameStates, Steps, IsStarted, IsInstruction}
use Rattle.refinement.specs.Map.{Setting, InstructionMap, instruction_map, mapped_state, mapped_inputs}
use Rattle.refinement.specs.Run.{Run, HoldsAt}

-- The mapped state and the mapped inputs at cycle t.
abbrev pub state_at : Setting → Run → ℕ → Valuation
state_at s run t = mapped_state s (run.valuations t)

abbrev pub inputs_at : Setting → Run → ℕ → Valuation
inputs_at s run t = mapped_inputs s (run.valuations t)

abbrev pub StartsAt : Setting → Run → ℕ → Type 0
StartsAt s run t = HoldsAt s run t s.map.start

-- e is the map's entry of instruction number j
abbrev pub IsMapEntry : Setting → ℕ → InstructionMap → Type 0
IsMapEntry s j e = (i : Instruction) × IsInstruction s.model j i × (instruction_map s.map.instructions (instruction_name i) ≡ Some e)

-- The commit of instruction number j holds at cycle t.
abbrev pub CommitsAt : Setting → Run → ℕ → ℕ → Type 0
CommitsAt s run j t = (e : InstructionMap) × IsMapEntry s j e × HoldsAt s run t e.commit

-- Instruction number j is that of a command begun at cycle t: at the mapped state and inputs it is valid and decodes alone.
abbrev pub IsCommandOf : Setting → Run → ℕ → ℕ → Type 0
IsCommandOf s run t j = IsStarted s.model (state_at s run t) (inputs_at s run t) j

-- A command of j begun at cycle t ends at cycle c: the first from t on at which its commit holds.
pub record EndsAt (s : Setting) (run : Run) (j t c : ℕ) : Type 0 where
  pub from : t ≤ c
  pub commits : CommitsAt s run j c
  pub first : (u : ℕ) → t ≤ u → u < c → ¬ CommitsAt s run j u

-- Cycle t of a run of so many cycles is idle, and n commands have ended before it.
pub data IsIdle (s : Setting) (run : Run) (cycles : ℕ) : ℕ → ℕ → Type 0 where
  -- the cycle after the reset
  after_reset : s.map.reset_cycles ≤ cycles → IsIdle s run cycles 0 s.map.reset_cycles
  -- a cycle after an idle one without start
  after_idle : {n t : ℕ} → IsIdle s run cycles n t → t < cycles → ¬ StartsAt s run t → IsIdle s run cycles n (suc t)
  -- the cycle after the end of a command that began in an idle one
  after_command : {n t : ℕ} (j c : ℕ) → IsIdle s run cycles n t → StartsAt s run t → IsCommandOf s run t j → EndsAt s run j t c
      → c < cycles → IsIdle s run cycles (suc n) (suc c)

-- One command is in flight at a time: after the start of a command there is no start up to the cycle at which it ends.
abbrev pub HasOneInFlight : Setting → Run → ℕ → Type 0
HasOneInFlight s run cycles =
    (n t u : ℕ) → IsIdle s run cycles n t → StartsAt s run t → t < u → u < cycles
    → ((j x : ℕ) → IsCommandOf s run t j → t ≤ x → x < u → ¬ CommitsAt s run j x) → ¬ StartsAt s run u

-- Cycle t is idle, n commands have ended before it, and q is the model's state after these n instructions, from the mapped
-- state after the reset on.
pub data HasState (s : Setting) (run : Run) (cycles : ℕ) : ℕ → Valuation → ℕ → Type 0 where
  after_reset : s.map.reset_cycles ≤ cycles → HasState s run cycles 0 (state_at s run s.map.reset_cycles) s.map.reset_cycles
  after_idle : {n t : ℕ} {q : Valuation} → HasState s run cycles n q t → t < cycles → ¬ StartsAt s run t
      → HasState s run cycles n q (suc t)
  after_command : {n t : ℕ} {q : Valuation} (j c : ℕ) (r : Valuation) → HasState s run cycles n q t → StartsAt s run t
      → IsCommandOf s run t j → EndsAt s run j t c → c < cycles → Steps s.model q (inputs_at s run t) r
      → HasState s run cycles (suc n) r (suc c)

-- each state with a stated initial value has it
abbrev pub HasInitialValues : Model → Valuation → Type 0
HasInitialValues m q =
    (n : Name) (d : StateDeclaration) (x : Value) → state_named (states_of m.top) n ≡ Some d → d.init ≡ Some x → q n ≡ x

-- The run refines the model. What is said of a start is said of each idle cycle of the run at which start holds.
pub record Refines (s : Setting) (run : Run) (cycles : ℕ) : Type 0 where
  -- after the reset the mapped state has the stated initial values
  pub initial : s.map.reset_cycles ≤ cycles → HasInitialValues s.model (state_at s run s.map.reset_cycles)
  -- a start begins a command of an instruction, and the model has a next state by it
  pub command : (n t : ℕ) (q : Valuation) → HasState s run cycles n q t → t < cycles → StartsAt s run t
      → ((j : ℕ) × IsCommandOf s run t j) × ((r : Valuation) × Steps s.model q (inputs_at s run t) r)
  -- a command that ends does so within its instruction's bound
  pub ended : (n t j c : ℕ) (q : Valuation) (e : InstructionMap) → HasState s run cycles n q t → StartsAt s run t
      → IsCommandOf s run t j → IsMapEntry s j e → EndsAt s run j t c → c < cycles → c < t + e.bound
  -- and of one that has not ended the bound lies past the run
  pub open_command : (n t j : ℕ) (q : Valuation) (e : InstructionMap) → HasState s run cycles n q t → t < cycles
      → StartsAt s run t → IsCommandOf s run t j → IsMapEntry s j e
      → ((u : ℕ) → t ≤ u → u < cycles → ¬ CommitsAt s run j u) → cycles < t + e.bound
  -- at each idle cycle, up to the one after the last, the mapped state is the model's
  pub state : (n t : ℕ) (q : Valuation) → HasState s run cycles n q t → t ≤ cycles → SameStates s.model (state_at s run t) q
