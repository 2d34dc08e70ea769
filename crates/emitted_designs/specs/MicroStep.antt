-- Micro-steps: what is done of an instruction between two edges of the clock, where child programs run.
use Rattle.std.specs.Prelude.{◌≡◌, List, [], ◌∷◌, ◌++◌, ◌⊎◌, IsTrue, IsFalse}
use Rattle.wb_values.specs.Value.{Valuation}
use Rattle.model_meaning.specs.Model.{Machine, machine, Instruction, instruction, Instructions, no_instructions, and_then, no_child, child, states_of, valid_of, decode_of, holds, updated, entered}
use Rattle.model_meaning.specs.Instruction.{NoneDecodes}

abbrev pub body_of : Machine → Instructions
body_of (machine states valid instructions) = instructions

-- Of the instructions this one decodes at the point, and no other.
abbrev pub DecodesAlone : Instructions → Valuation → Instruction → Type 0
DecodesAlone no_instructions p x = ⊥
DecodesAlone (and_then i is) p x =
    (IsTrue (holds (decode_of i) p) × NoneDecodes is p × (x ≡ i)) ⊎ (IsFalse (holds (decode_of i) p) × DecodesAlone is p x)

-- the child program that an instruction enters, if it has one
abbrev pub entered_by : Instruction → List Machine
entered_by (instruction called decode update no_child) = []
entered_by (instruction called decode update (child steps program)) = program ∷ []

-- the point after an instruction's updates, where its child's private states have their initial values
abbrev pub begun : Instruction → Valuation → Valuation
begun (instruction called decode update no_child) p = updated update p
begun (instruction called decode update (child steps program)) p = entered (states_of program) (updated update p)

-- The innermost running program does one micro-step at point p, where other programs run around it. That leads to the programs that run next,
-- the innermost first, and to a point: one instruction decodes, is applied, and enters its own child, if it has one; or the program's valid
-- condition fails, and it ends; or not exactly one instruction decodes, and nothing changes.
pub data MicroStep (program : Machine) (around : List Machine) (p : Valuation) : (next : List Machine) → (q : Valuation) → Type 0 where
  does : (i : Instruction) → IsTrue (holds (valid_of program) p) → DecodesAlone (body_of program) p i
      → MicroStep program around p (entered_by i ++ program ∷ around) (begun i p)
  ends : IsFalse (holds (valid_of program) p) → MicroStep program around p around p
  stays : IsTrue (holds (valid_of program) p) → ((i : Instruction) → ¬ DecodesAlone (body_of program) p i)
      → MicroStep program around p (program ∷ around) p
