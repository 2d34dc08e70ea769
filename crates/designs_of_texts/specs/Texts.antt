-- What holds of designs whose sources are trees of texts.
use Rattle.std.specs.Prelude.{◌≡◌, ℕ, List}
use Rattle.wb_values.specs.Value.{Valuation}
use Rattle.verilog_text.specs.Grammar.{IsTreeOf}
use Rattle.verilog_meaning.specs.Settled.{Design, IsSettled}
use Rattle.verilog_meaning.specs.Next.{AreRegisters, AreInputs}
use Rattle.verilog_designs.specs.Accepted.{IsAccepted}
use Rattle.refinement.specs.Map.{Setting, design_of}
use Rattle.refinement.specs.Run.{Run, IsRun}
use Rattle.verilog_exists.specs.Exists.{IsOfText}
use Rattle.verilog_exists.specs.One.{IsTheOne}

-- Where some files have the design's source as their tree, its numbers fit, its parts have bits, and its names have no dots.
abbrev pub TreesAreOfTexts : Type 0
TreesAreOfTexts = (files : List (List ℕ)) (d : Design) → IsTreeOf files d.source → IsOfText d

-- A design that is read from files and is accepted has exactly one settled valuation, as far as declared names go, for any registers,
-- and for any inputs that give each input of the top but the clock a value of its width.
abbrev pub TextSettlesInOneWay : Type 0
TextSettlesInOneWay =
    (files : List (List ℕ)) (d : Design) (registers inputs : Valuation) → IsTreeOf files d.source → IsAccepted d → AreInputs d inputs
    → (v : Valuation) × IsSettled d registers inputs v × IsTheOne d registers inputs v

-- From any first registers, with any inputs at each cycle, it has a run, which is one of every number of cycles.
abbrev pub TextHasRuns : Type 0
TextHasRuns =
    (files : List (List ℕ)) (s : Setting) (registers : Valuation) (inputs : ℕ → Valuation) → IsTreeOf files s.source → IsAccepted (design_of s)
    → AreRegisters (design_of s) registers → ((t : ℕ) → AreInputs (design_of s) (inputs t))
    → (run : Run) × (run.registers 0 ≡ registers) × (run.inputs ≡ inputs) × ((cycles : ℕ) → IsRun s run cycles)
