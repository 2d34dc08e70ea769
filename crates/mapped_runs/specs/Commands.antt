-- Values that are a whole command of an instruction, and runs that are one.
use Rattle.std.specs.Prelude.{◌≡◌, ℕ, slice_get, Some}
use Rattle.model_meaning.specs.Model.{Model}
use Rattle.refinement.specs.Map.{Map, Setting}
use Rattle.refinement.specs.Run.{Run}
use Rattle.refinement.specs.Obligation.{IsWholeCommand}
use Rattle.mapped_designs.specs.Mapped.{Mapped, MappedInstruction}
use Rattle.mapped_designs.specs.Runs.{Values, AreValuesOf}
use Rattle.mapped_designs.specs.Broken.{IsCommandBy}
use Rattle.mapped_designs.specs.Meaning.{IsMappedBy}
use Rattle.mapped_runs.specs.Sound.{IsSoundDesign}
use Rattle.mapped_runs.specs.Valued.{Agree}

-- Whether values are a whole command does not rest on inputs past the instruction's bound.
abbrev pub CommandRestsOnItsBound : Type 0
CommandRestsOnItsBound =
    (m : Model) (e : Mapped) (p : Map) (x y : Values) (j : ℕ) (i : MappedInstruction) → slice_get e.instructions j ≡ Some i → Agree i.bound x y
    → IsCommandBy m e p x j → IsCommandBy m e p y j

-- A run that is a whole command has values that are one.
abbrev pub WholeCommandsAreShown : Type 0
WholeCommandsAreShown =
    (s : Setting) (e : Mapped) (j : ℕ) (run : Run) → IsMappedBy s e → IsSoundDesign e.parts → IsWholeCommand s j run
    → (x : Values) × AreValuesOf e.parts x × IsCommandBy s.model e s.map x j
