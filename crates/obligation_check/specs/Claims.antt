-- What laws on runs and values give: values decide a property of runs, and values that have it are those of a run.
use Rattle.std.specs.Prelude.{◌↔◌, ℕ, nat_lt, cond}
use Rattle.refinement.specs.Map.{Setting}
use Rattle.refinement.specs.Run.{Run, IsRun}
use Rattle.v_design.specs.Parts.{registers_of, inputs_of}
use Rattle.v_design.specs.Design.{values_under}
use Rattle.mapped_designs.specs.Mapped.{Mapped}
use Rattle.mapped_designs.specs.Runs.{Values, AreValuesOf, zero_inputs}
use Rattle.mapped_runs.specs.Valued.{HasValues}

-- the values of a run: its first registers, and its inputs at each of so many cycles. Later inputs are 0.
abbrev pub values_up_to : Mapped → (cycles : ℕ) → Run → Values
values_up_to e cycles run = record {
  first = values_under (registers_of e.parts) (run.registers 0);
  inputs = λ t. cond (nat_lt t cycles) (values_under (inputs_of e.parts) (run.inputs t)) (zero_inputs e.parts);
}

-- The values of a run of so many cycles fit the design, and decide whether it has a property.
pub record DecidesRuns (s : Setting) (e : Mapped) (cycles : ℕ) (HasProperty : Run → Type 0) (IsDecided : Values → Type 0) : Type 0 where
  pub fits : (run : Run) → IsRun s run cycles → AreValuesOf e.parts (values_up_to e cycles run)
  pub decides : (run : Run) → IsRun s run cycles → HasProperty run ↔ IsDecided (values_up_to e cycles run)

-- Values of the design that are so are those of a run.
abbrev pub HaveRuns : Setting → Mapped → (cycles : ℕ) → (IsDecided : Values → Type 0) → Type 0
HaveRuns s e cycles IsDecided = (x : Values) → AreValuesOf e.parts x → IsDecided x → (run : Run) × IsRun s run cycles × HasValues e.parts run cycles x
