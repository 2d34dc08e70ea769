-- Runs of a design, and runs from reset.
use Rattle.std.specs.Prelude.{◌≡◌, ℕ, suc, ◌<◌, ◌≤◌, List, slice_get, Some, IsTrue}
use Rattle.wb_values.specs.Value.{Valuation, as_number}
use Rattle.verilog_trees.specs.Syntax.{Expression}
use Rattle.verilog_meaning.specs.Settled.{IsSettled}
use Rattle.verilog_meaning.specs.Next.{AreRegisters, AreInputs, IsNext}
use Rattle.refinement.specs.Map.{Setting, design_of, condition_holds}

-- What stands at each cycle t: the registers, the inputs, and the valuation of all names.
pub record Run : Type 0 where
  pub registers : ℕ → Valuation
  pub inputs : ℕ → Valuation
  pub valuations : ℕ → Valuation

-- A run of so many cycles: any first registers; at each cycle any inputs, and a valuation settled for both; and the registers of
-- the next cycle are what the clock's edge makes of it. Registers after the last cycle are read in a settled valuation too,
-- whatever inputs come then.
pub record IsRun (s : Setting) (run : Run) (cycles : ℕ) : Type 0 where
  pub first : AreRegisters (design_of s) (run.registers 0)
  pub inputs : (t : ℕ) → t ≤ cycles → AreInputs (design_of s) (run.inputs t)
  pub settled : (t : ℕ) → t ≤ cycles → IsSettled (design_of s) (run.registers t) (run.inputs t) (run.valuations t)
  pub next : (t : ℕ) → t < cycles → IsNext (design_of s) (run.valuations t) (run.registers (suc t))

-- a condition of the map holds at cycle t
abbrev pub HoldsAt : Setting → Run → ℕ → Expression → Type 0
HoldsAt s run t e = IsTrue (condition_holds s (run.valuations t) e)

-- Reset is active at cycle t.
abbrev pub IsResetAt : Setting → Run → ℕ → Type 0
IsResetAt s run t = as_number (run.valuations t s.map.reset_signal) ≡ s.map.reset_active

-- Assumption k holds at cycle t; so does invariant k.
abbrev pub HoldsOf : Setting → Run → List Expression → ℕ → ℕ → Type 0
HoldsOf s run conditions k t = (e : Expression) → slice_get conditions k ≡ Some e → HoldsAt s run t e

-- The run is from reset: reset is active at each of the first cycles, and from then on it is inactive, and each assumption holds.
pub record IsFromReset (s : Setting) (run : Run) (cycles : ℕ) : Type 0 where
  pub active : (t : ℕ) → t < s.map.reset_cycles → t < cycles → IsResetAt s run t
  pub inactive : (t : ℕ) → s.map.reset_cycles ≤ t → t < cycles → ¬ IsResetAt s run t
  pub assumed : (t k : ℕ) → s.map.reset_cycles ≤ t → t < cycles → HoldsOf s run s.map.assume k t
