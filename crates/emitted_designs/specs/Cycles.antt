-- What an emitted design does, cycle by cycle.
use Rattle.std.specs.Prelude.{◌≡◌, ◌↔◌, ℕ, suc, ◌<◌, ◌≤◌, Bool, ◌||◌, List, [], ◌∷◌, ◌++◌, Option, Some, None, is_some, IsTrue, IsFalse}
use Rattle.wb_values.specs.Value.{Name, Sort, Value, Valuation}
use Rattle.model_meaning.specs.Model.{Model, StateDeclaration, Machine, Instruction, states_of, state_named, is_input_name, valid_of, holds, point_of}
use Rattle.model_meaning.specs.Instruction.{IsInstruction}
use Rattle.model_meaning.specs.Invariant.{gathered}
use Rattle.verilog_meaning.specs.Settled.{whole_name}
use Rattle.refinement.specs.Map.{Setting, mapped_or_zero, sort_of_input}
use Rattle.refinement.specs.Run.{Run, HoldsAt, IsResetAt}
use Rattle.refinement.specs.Refinement.{state_at, inputs_at, StartsAt, IsCommandOf, HasInitialValues}
use Rattle.emitted_designs.specs.Names.{go_name, commit_name, kept_name}
use Rattle.emitted_designs.specs.Bounds.{has_children}
use Rattle.emitted_designs.specs.Map.{rest_expression}
use Rattle.emitted_designs.specs.Module.{all_states}
use Rattle.emitted_designs.specs.MicroStep.{entered_by, begun, MicroStep}

-- ---- signals

abbrev pub HasGoAt : Setting → Run → ℕ → Type 0
HasGoAt s run t = HoldsAt s run t (whole_name go_name)

abbrev pub HasCommitAt : Setting → Run → ℕ → Type 0
HasCommitAt s run t = HoldsAt s run t (whole_name commit_name)

-- wb_busy is 0; a model without child programs is at rest in each cycle
abbrev pub IsAtRest : Setting → Run → ℕ → Type 0
IsAtRest s run t = IsTrue (has_children s.model) → HoldsAt s run t rest_expression

-- ---- points

-- the point at which an instruction starts: the states in their registers, and the inputs
abbrev pub start_point : Setting → Run → ℕ → Valuation
start_point s run t = point_of s.model (state_at s run t) (inputs_at s run t)

abbrev pub register_value : Setting → Valuation → Option Sort → Name → Value
register_value s v t n = mapped_or_zero s v t (Some (whole_name n))

-- a state's register, or the one that keeps an input
abbrev pub held_value : Setting → Valuation → Option StateDeclaration → Name → Value
held_value s v (Some d) n = register_value s v (Some d.sort) n
held_value s v None n = register_value s v (sort_of_input s.model.inputs n) (kept_name n)

-- The point that registers hold: states and private states in the registers of their names, inputs in those that keep them.
abbrev pub held_point : Setting → Run → ℕ → Valuation
held_point s run t n = held_value s (run.valuations t) (state_named (all_states s.model) n) n

-- the names that matter where these programs run: the states of the model; and where some do, their private states and the inputs
abbrev pub is_held : Model → List Machine → Name → Bool
is_held m [] n = is_some (state_named (states_of m.top) n)
is_held m (program ∷ around) n =
    is_input_name m.inputs n || is_some (state_named (gathered states_of (program ∷ around) ++ states_of m.top) n)

-- Where these programs run, the registers hold the point.
abbrev pub HoldPoint : Setting → Run → ℕ → List Machine → Valuation → Type 0
HoldPoint s run t programs p = (n : Name) → IsTrue (is_held s.model programs n) → held_point s run t n ≡ p n

-- ---- cycles

-- Instruction i starts at cycle t.
pub record IsStartOf (s : Setting) (run : Run) (t : ℕ) (i : Instruction) : Type 0 where
  pub number : ℕ
  pub starts : StartsAt s run t
  pub is_command : IsCommandOf s run t number
  pub is_instruction : IsInstruction s.model number i

-- What an edge without reset does, where these programs run before it, the innermost first: which run after it, and the point that it
-- leads to. Between commands a start applies the instruction and enters its child; without a start nothing changes.
pub data EdgeLeads (s : Setting) (run : Run) (t : ℕ) : (running next : List Machine) → (q : Valuation) → Type 0 where
  waits : ¬ StartsAt s run t → EdgeLeads s run t [] [] (start_point s run t)
  starts : (i : Instruction) → IsStartOf s run t i → EdgeLeads s run t [] (entered_by i) (begun i (start_point s run t))
  goes_on : (program : Machine) (around next : List Machine) (q : Valuation) → MicroStep program around (held_point s run t) next q
      → EdgeLeads s run t (program ∷ around) next q

-- The child programs that run at cycle t, the innermost first: none where the design is at rest, and none after a reset.
pub data AreRunning (s : Setting) (run : Run) : ℕ → List Machine → Type 0 where
  at_rest : (t : ℕ) → IsAtRest s run t → AreRunning s run t []
  after_reset : (t : ℕ) → IsResetAt s run t → AreRunning s run (suc t) []
  after_edge : (t : ℕ) (running next : List Machine) (q : Valuation) → AreRunning s run t running → ¬ IsResetAt s run t
      → EdgeLeads s run t running next q → AreRunning s run (suc t) next

-- An instruction ends in its start cycle, if it has no child, or in the cycle in which its child ends. (Reset does away with a running child:
-- it does not end.)
pub data EndsIn (s : Setting) (run : Run) (t : ℕ) : (running : List Machine) → Type 0 where
  at_its_start : (i : Instruction) → IsStartOf s run t i → entered_by i ≡ [] → EndsIn s run t []
  with_its_child : (program : Machine) → ¬ IsResetAt s run t → IsFalse (holds (valid_of program) (held_point s run t)) → EndsIn s run t (program ∷ [])

-- A run of an emitted design.
pub record FollowsModel (s : Setting) (run : Run) (cycles : ℕ) : Type 0 where
  -- wb_start is wb_go where the design is at rest, the model's valid condition holds, and exactly one instruction decodes
  pub start : (t : ℕ) → t < cycles → StartsAt s run t ↔ (HasGoAt s run t × IsAtRest s run t × ((j : ℕ) × IsCommandOf s run t j))
  -- at an edge with wb_rst states with initial values take them
  pub reset : (t : ℕ) → t < cycles → IsResetAt s run t → HasInitialValues s.model (state_at s run (suc t))
  -- wb_busy is 0 exactly where no child program runs
  pub busy : (t : ℕ) (running : List Machine) → t ≤ cycles → AreRunning s run t running → IsAtRest s run t ↔ (running ≡ [])
  -- after each other edge the registers hold the point that the edge leads to
  pub edge : (t : ℕ) (running next : List Machine) (q : Valuation) → t < cycles → ¬ IsResetAt s run t → AreRunning s run t running
      → EdgeLeads s run t running next q → HoldPoint s run (suc t) next q
  -- wb_commit holds exactly where an instruction ends
  pub commit : (t : ℕ) (running : List Machine) → t < cycles → AreRunning s run t running → HasCommitAt s run t ↔ EndsIn s run t running
