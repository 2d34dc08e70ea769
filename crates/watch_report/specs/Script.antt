-- The runs of a design that a script is of.
use Rattle.std.specs.Prelude.{◌≡◌, ℕ, List, length, slice_get, Some}
use Rattle.wb_values.specs.Value.{Name, Valuation}
use Rattle.scripts.specs.Script.{Set, Script, with_sets}
use Rattle.verilog_meaning.specs.Hierarchy.{Placed, dotted}
use Rattle.verilog_meaning.specs.Settled.{Design}
use Rattle.verilog_registers.specs.Registers.{IsRegister}
use Rattle.design_scripts.specs.Names.{IsSetInput}
use Rattle.design_scripts.specs.Simulation.{AreZero, line_inputs}
use Rattle.refinement.specs.Map.{Setting, design_of}
use Rattle.refinement.specs.Run.{Run, IsRun}

-- two valuations give each register of the design the same value
abbrev pub HaveSameRegisters : Design → (v w : Valuation) → Type 0
HaveSameRegisters d v w = (p : Placed) (n : Name) → IsRegister d p n → v (dotted p.path n) ≡ w (dotted p.path n)

-- and each input of its top, but for the clock
abbrev pub HaveSameInputs : Design → (v w : Valuation) → Type 0
HaveSameInputs d v w = (n : Name) → IsSetInput d n → v n ≡ w n

-- A run of the design with as many cycles as the script has input lines: it begins with all registers 0, but for what the script sets, and
-- each line gives the inputs of a cycle.
pub record IsRunOfScript (s : Setting) (script : Script) (run : Run) : Type 0 where
  pub zeros : Valuation
  pub are_zero : AreZero (design_of s) zeros
  pub first : HaveSameRegisters (design_of s) (run.registers 0) (with_sets zeros script.state)
  pub inputs : (t : ℕ) (sets : List Set) → slice_get script.inputs t ≡ Some sets → HaveSameInputs (design_of s) (run.inputs t) (line_inputs sets)
  pub is_run : IsRun s run (length script.inputs)
