-- A design has runs: the registers after an edge of the clock, and a run of every length.
use Rattle.std.specs.Prelude.{◌≡◌, ℕ}
use Rattle.wb_values.specs.Value.{Valuation}
use Rattle.verilog_meaning.specs.Settled.{Design}
use Rattle.verilog_meaning.specs.Next.{AreRegisters, AreInputs, IsNext}
use Rattle.verilog_designs.specs.Accepted.{IsAccepted}
use Rattle.refinement.specs.Map.{Setting, design_of}
use Rattle.refinement.specs.Run.{Run, IsRun}
use Rattle.verilog_exists.specs.Exists.{NamesHaveNoDots, IsOfText}

-- After an edge of the clock at any valuation an accepted design has next registers.
abbrev pub NextRegistersExist : Type 0
NextRegistersExist = (d : Design) (v : Valuation) → IsAccepted d → NamesHaveNoDots d.source → (next : Valuation) × IsNext d v next

-- From any first registers, with any inputs at each cycle, an accepted design has a run, which is one of every number of cycles: for
-- each map of it, since a run takes no more of a map than the design.
abbrev pub RunExists : Type 0
RunExists =
    (s : Setting) (registers : Valuation) (inputs : ℕ → Valuation) → IsAccepted (design_of s) → IsOfText (design_of s)
    → AreRegisters (design_of s) registers → ((t : ℕ) → AreInputs (design_of s) (inputs t))
    → (run : Run) × (run.registers 0 ≡ registers) × (run.inputs ≡ inputs) × ((cycles : ℕ) → IsRun s run cycles)
