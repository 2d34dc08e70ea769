-- What the obligations are for: where all of them hold, every run of the design from reset refines the model.
use Rattle.std.specs.Prelude.{◌≡◌, ℕ, ◌≤◌, List, [], ◌∷◌, Some, ⊤}
use Rattle.model_meaning.specs.Model.{Instruction, instruction_name}
use Rattle.model_meaning.specs.Instruction.{IsInstruction}
use Rattle.refinement.specs.Map.{Setting, InstructionMap, instruction_map}
use Rattle.refinement.specs.Run.{Run, IsRun, IsFromReset}
use Rattle.refinement.specs.Refinement.{HasOneInFlight, Refines}
use Rattle.refinement.specs.Obligation.{Obligation, Holds, obligations}

abbrev pub AllHold : Setting → List Obligation → Type 0
AllHold s [] = ⊤
AllHold s (o ∷ os) = Holds s o × AllHold s os

-- Each instruction of the model's top has an entry in the map, with a bound of at least one cycle.
abbrev pub IsComplete : Setting → Type 0
IsComplete s =
    (j : ℕ) (i : Instruction) → IsInstruction s.model j i
    → (e : InstructionMap) × (instruction_map s.map.instructions (instruction_name i) ≡ Some e) × (1 ≤ e.bound)

-- Every run, of any length and from any first registers, that is from reset and has one command in flight, refines the model.
abbrev pub EveryRunRefines : Setting → Type 0
EveryRunRefines s = (run : Run) (cycles : ℕ) → IsRun s run cycles → IsFromReset s run cycles → HasOneInFlight s run cycles
    → Refines s run cycles

abbrev pub ObligationsGiveRefinement : Type 0
ObligationsGiveRefinement = (s : Setting) → IsComplete s → AllHold s (obligations s.model s.map) → EveryRunRefines s
