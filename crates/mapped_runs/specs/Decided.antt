-- An obligation holds exactly where no values of the design break it, and values that are a whole command are those of a run that is one.
use Rattle.std.specs.Prelude.{◌↔◌, ℕ}
use Rattle.verilog_designs.specs.Accepted.{IsAccepted}
use Rattle.verilog_exists.specs.Exists.{IsOfText}
use Rattle.refinement.specs.Map.{Setting, design_of}
use Rattle.refinement.specs.Run.{Run}
use Rattle.refinement.specs.Obligation.{Obligation, Holds, Falsifies, IsWholeCommand}
use Rattle.mapped_designs.specs.Mapped.{Mapped}
use Rattle.mapped_designs.specs.Runs.{Values, AreValuesOf}
use Rattle.mapped_designs.specs.Broken.{BreaksObligation, IsCommandBy}
use Rattle.mapped_designs.specs.Meaning.{IsMappedBy}
use Rattle.mapped_runs.specs.Sound.{IsSoundDesign}
use Rattle.mapped_runs.specs.Valued.{HasValues}
use Rattle.mapped_runs.specs.Breaking.{IsWithinCycles}

-- What the laws below take for granted: the design is accepted and its tree is that of a text, the terms are those of its map, and the
-- obligation speaks of its own cycles alone.
pub record IsJudged (s : Setting) (e : Mapped) (o : Obligation) : Type 0 where
  pub accepted : IsAccepted (design_of s)
  pub of_text : IsOfText (design_of s)
  pub mapped : IsMappedBy s e
  pub sound : IsSoundDesign e.parts
  pub within : IsWithinCycles o

-- Values that break it are those of a run that falsifies it.
abbrev pub BreakingValuesFalsify : Type 0
BreakingValuesFalsify =
    (s : Setting) (e : Mapped) (o : Obligation) (x : Values) → IsJudged s e o → AreValuesOf e.parts x → BreaksObligation s.model e x o
    → (run : Run) × Falsifies s run o × HasValues e.parts run o.cycles x

-- It holds exactly where no values of the design's sorts break it.
abbrev pub ValuesDecide : Type 0
ValuesDecide =
    (s : Setting) (e : Mapped) (o : Obligation) → IsJudged s e o → Holds s o ↔ ((x : Values) → AreValuesOf e.parts x → ¬ BreaksObligation s.model e x o)

-- Values that are a whole command of an instruction are those of a run that is one.
abbrev pub CommandsAreWhole : Type 0
CommandsAreWhole =
    (s : Setting) (e : Mapped) (j : ℕ) (x : Values) → IsAccepted (design_of s) → IsOfText (design_of s) → IsMappedBy s e → IsSoundDesign e.parts
    → AreValuesOf e.parts x → IsCommandBy s.model e s.map x j → (run : Run) × IsWholeCommand s j run × ((cycles : ℕ) → HasValues e.parts run cycles x)
