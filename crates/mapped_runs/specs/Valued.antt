-- Values of a run: those of its first registers, and of its inputs at each cycle. Each fact says the same of a run and of its values.
use Rattle.std.specs.Prelude.{◌≡◌, ◌↔◌, ℕ, ◌<◌, ◌≤◌, List, [], ◌∷◌, ⊤}
use Rattle.refinement.specs.Map.{Setting, design_of}
use Rattle.refinement.specs.Run.{Run, IsRun}
use Rattle.refinement.specs.Obligation.{Fact, reset_active, reset_inactive, assumed, invariant, start, no_start, decoded, commit, no_commit, initial, same, one_decodes, ends, result_of, never, Means}
use Rattle.model_meaning.specs.Model.{Model}
use Rattle.v_design.specs.Parts.{Parts, registers_of, inputs_of}
use Rattle.v_design.specs.Design.{values_under, IsDesignOf}
use Rattle.mapped_designs.specs.Mapped.{Mapped}
use Rattle.mapped_designs.specs.Runs.{Values, AreValuesOf, IsRestZero, Shows}
use Rattle.mapped_designs.specs.Meaning.{IsMappedBy}
use Rattle.mapped_runs.specs.Sound.{IsSoundDesign}

-- The first registers of the run, and its inputs at each of so many cycles, have these values.
pub record HasValues (e : Parts) (run : Run) (cycles : ℕ) (x : Values) : Type 0 where
  pub first : values_under (registers_of e) (run.registers 0) ≡ x.first
  pub inputs : (t : ℕ) → t < cycles → values_under (inputs_of e) (run.inputs t) ≡ x.inputs t

-- The fact speaks of so many cycles alone: of what inputs decide, at these; of states and invariants, also at the cycle after the last.
abbrev pub IsWithin : ℕ → Fact → Type 0
IsWithin cycles (reset_active t) = t < cycles
IsWithin cycles (reset_inactive t) = t < cycles
IsWithin cycles (assumed k t) = t < cycles
IsWithin cycles (invariant k t) = t ≤ cycles
IsWithin cycles (start t) = t < cycles
IsWithin cycles (no_start t) = t < cycles
IsWithin cycles (decoded j) = 0 < cycles
IsWithin cycles (commit j t) = t < cycles
IsWithin cycles (no_commit j t) = t < cycles
IsWithin cycles (initial n t) = t ≤ cycles
IsWithin cycles (same n) = 0 < cycles
IsWithin cycles one_decodes = 0 < cycles
IsWithin cycles (ends j) = 0 < cycles
IsWithin cycles (result_of j n t) = (0 < cycles) × (t ≤ cycles)
IsWithin cycles never = ⊤

abbrev pub AreWithin : ℕ → List Fact → Type 0
AreWithin cycles [] = ⊤
AreWithin cycles (fact ∷ facts) = IsWithin cycles fact × AreWithin cycles facts

-- A fact within the cycles of a run holds of it exactly where its values show it.
abbrev pub RunsShow : Type 0
RunsShow =
    (s : Setting) (e : Mapped) (run : Run) (cycles : ℕ) (x : Values) (fact : Fact) → IsMappedBy s e → IsSoundDesign e.parts → IsRun s run cycles
    → HasValues e.parts run cycles x → IsWithin cycles fact → Means s run fact ↔ Shows s.model e x fact

-- Two values that agree on the first registers and on the inputs at so many cycles.
pub record Agree (cycles : ℕ) (x y : Values) : Type 0 where
  pub first : x.first ≡ y.first
  pub inputs : (t : ℕ) → t < cycles → x.inputs t ≡ y.inputs t

-- They show the same facts within these.
abbrev pub LaterInputsDoNotMatter : Type 0
LaterInputsDoNotMatter =
    (m : Model) (e : Mapped) (cycles : ℕ) (x y : Values) (fact : Fact) → Agree cycles x y → IsWithin cycles fact → Shows m e x fact → Shows m e y fact

-- Every run has values: of the design's sorts, and 0 in what does not count.
abbrev pub RunsHaveValues : Type 0
RunsHaveValues =
    (s : Setting) (e : Parts) (run : Run) (cycles : ℕ) → IsDesignOf (design_of s) e → IsSoundDesign e → IsRun s run cycles
    → (x : Values) × HasValues e run cycles x × AreValuesOf e x × IsRestZero e x.first
