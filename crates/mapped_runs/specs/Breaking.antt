-- Obligations that speak of their own cycles alone, and values that break them.
use Rattle.std.specs.Prelude.{Contains}
use Rattle.model_meaning.specs.Model.{Model}
use Rattle.refinement.specs.Map.{Setting}
use Rattle.refinement.specs.Run.{Run}
use Rattle.refinement.specs.Obligation.{Obligation, Falsifies, obligations}
use Rattle.refinement.specs.Soundness.{IsComplete}
use Rattle.mapped_designs.specs.Mapped.{Mapped}
use Rattle.mapped_designs.specs.Runs.{Values}
use Rattle.mapped_designs.specs.Broken.{BreaksObligation}
use Rattle.mapped_designs.specs.Meaning.{IsMappedBy}
use Rattle.mapped_runs.specs.Sound.{IsSoundDesign}
use Rattle.mapped_runs.specs.Valued.{HasValues, IsWithin, AreWithin, Agree}

-- The obligation speaks of its own cycles alone.
pub record IsWithinCycles (o : Obligation) : Type 0 where
  pub hypotheses : AreWithin o.cycles o.hypotheses
  pub claim : IsWithin o.cycles o.claim

-- All obligations of a map do, where each instruction has an entry in it with a bound of at least one cycle.
abbrev pub ObligationsAreWithin : Type 0
ObligationsAreWithin = (s : Setting) (o : Obligation) → IsComplete s → Contains (obligations s.model s.map) o → IsWithinCycles o

-- Whether values break it does not rest on inputs of later cycles.
abbrev pub BreakingRestsOnItsCycles : Type 0
BreakingRestsOnItsCycles =
    (m : Model) (e : Mapped) (x y : Values) (o : Obligation) → IsWithinCycles o → Agree o.cycles x y → BreaksObligation m e x o → BreaksObligation m e y o

-- The values of a run that falsifies it break it.
abbrev pub FalsifyingRunsBreak : Type 0
FalsifyingRunsBreak =
    (s : Setting) (e : Mapped) (run : Run) (o : Obligation) (x : Values) → IsMappedBy s e → IsSoundDesign e.parts → IsWithinCycles o → Falsifies s run o
    → HasValues e.parts run o.cycles x → BreaksObligation s.model e x o
