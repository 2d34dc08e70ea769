-- Values of a design are those of runs.
use Rattle.std.specs.Prelude.{ℕ}
use Rattle.verilog_designs.specs.Accepted.{IsAccepted}
use Rattle.verilog_exists.specs.Exists.{IsOfText}
use Rattle.refinement.specs.Map.{Setting, design_of}
use Rattle.refinement.specs.Run.{Run, IsRun}
use Rattle.v_design.specs.Parts.{Parts}
use Rattle.v_design.specs.Design.{IsDesignOf}
use Rattle.mapped_designs.specs.Runs.{Values, AreValuesOf, IsRestZero}
use Rattle.mapped_runs.specs.Sound.{IsSoundDesign}
use Rattle.mapped_runs.specs.Valued.{HasValues}

-- Values of the design's sorts, 0 in what does not count, are those of a run of every length.
abbrev pub ValuesHaveRuns : Type 0
ValuesHaveRuns =
    (s : Setting) (e : Parts) (x : Values) → IsAccepted (design_of s) → IsOfText (design_of s) → IsDesignOf (design_of s) e → IsSoundDesign e
    → AreValuesOf e x → IsRestZero e x.first → (run : Run) × ((cycles : ℕ) → IsRun s run cycles × HasValues e run cycles x)
