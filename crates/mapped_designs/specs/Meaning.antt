-- When terms are those of a map: wherever registers and inputs have a settled valuation, each is worth what the map's expression is there.
use Rattle.std.specs.Prelude.{◌≡◌, Bool, false, ◌==◌, map, ◌++◌, Option, Some, None}
use Rattle.wb_values.specs.Value.{Value, truth_value, as_number, Valuation}
use Rattle.model_meaning.specs.Model.{Instruction, instruction_name, states_of, instructions_in}
use Rattle.verilog_trees.specs.Syntax.{Expression}
use Rattle.verilog_meaning.specs.Settled.{IsSettled}
use Rattle.verilog_meaning.specs.Next.{AreRegisters, AreInputs}
use Rattle.refinement.specs.Map.{Setting, InstructionMap, design_of, condition_holds, mapped_state, mapped_inputs, instruction_map}
use Rattle.refinement.specs.Obligation.{bound_named}
use Rattle.v_design.specs.Design.{IsDesignOf, worth}
use Rattle.mapped_designs.specs.Mapped.{Mapped, MappedInstruction, IsSortedFor}

-- a condition of the map, as a value
abbrev pub condition_value : Setting → Valuation → Expression → Value
condition_value s v e = truth_value (condition_holds s v e)

-- whether reset is active
abbrev pub is_reset_active : Setting → Valuation → Bool
is_reset_active s v = as_number (v s.map.reset_signal) == s.map.reset_active

-- the condition of an entry's commit; where there is no entry it never holds
abbrev pub commit_holds : Setting → Valuation → Option InstructionMap → Bool
commit_holds s v None = false
commit_holds s v (Some e) = condition_holds s v e.commit

abbrev pub commit_value : Setting → Valuation → Instruction → Value
commit_value s v i = truth_value (commit_holds s v (instruction_map s.map.instructions (instruction_name i)))

-- The terms are worth what the map's expressions are under a valuation that is settled for these registers and inputs.
pub record Tells (s : Setting) (e : Mapped) (registers inputs v : Valuation) : Type 0 where
  pub reset : worth e.parts registers inputs e.reset ≡ truth_value (is_reset_active s v)
  pub start : worth e.parts registers inputs e.start ≡ condition_value s v s.map.start
  pub assume : map (worth e.parts registers inputs) e.assume ≡ map (condition_value s v) s.map.assume
  pub invariants : map (worth e.parts registers inputs) e.invariants ≡ map (condition_value s v) s.map.invariants
  pub model_states : map (worth e.parts registers inputs) e.states ≡ map (λ d. mapped_state s v d.state_name) (states_of s.model.top)
  pub model_inputs : map (worth e.parts registers inputs) e.inputs ≡ map (λ i. mapped_inputs s v i.input_name) s.model.inputs
  pub commits :
      map (λ (i : MappedInstruction). worth e.parts registers inputs i.commit) e.instructions ≡ map (commit_value s v) (instructions_in s.model.top)

-- The parts are those of the setting's design, and the terms those of its map: they are of the model's sorts, tell what the map's
-- expressions are worth, and the terms of states and invariants are worth the same under all inputs.
pub record IsMappedBy (s : Setting) (e : Mapped) : Type 0 where
  pub design : IsDesignOf (design_of s) e.parts
  pub sorted : IsSortedFor s.model e
  pub tells : (registers inputs v : Valuation) → AreRegisters (design_of s) registers → AreInputs (design_of s) inputs
      → IsSettled (design_of s) registers inputs v → Tells s e registers inputs v
  pub still : (registers inputs others : Valuation) → AreRegisters (design_of s) registers → AreInputs (design_of s) inputs
      → AreInputs (design_of s) others
      → map (worth e.parts registers inputs) (e.states ++ e.invariants) ≡ map (worth e.parts registers others) (e.states ++ e.invariants)
  pub reset_cycles : e.reset_cycles ≡ s.map.reset_cycles
  pub bounds : map (λ (i : MappedInstruction). i.bound) e.instructions ≡ map (λ i. bound_named s.map (instruction_name i)) (instructions_in s.model.top)
