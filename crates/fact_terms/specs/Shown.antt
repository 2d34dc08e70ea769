-- What a run shows of a design with a map, by the values of the names of its store.
use Rattle.std.specs.Prelude.{ℕ}
use Rattle.wb_values.specs.Value.{Valuation}
use Rattle.model_meaning.specs.Model.{Model}
use Rattle.mapped_designs.specs.Mapped.{Mapped}
use Rattle.mapped_designs.specs.Runs.{Values, shown_state, shown_inputs}
use Rattle.run_terms.specs.Names.{values_of_run}

-- the values of a run of so many cycles
abbrev pub run_of : Mapped → (cycles : ℕ) → Valuation → Values
run_of e cycles v = values_of_run e.parts cycles v

-- the mapped state and the mapped inputs at its first cycle
abbrev pub first_state : Model → Mapped → (cycles : ℕ) → Valuation → Valuation
first_state m e cycles v = shown_state m e (run_of e cycles v) 0

abbrev pub first_inputs : Model → Mapped → (cycles : ℕ) → Valuation → Valuation
first_inputs m e cycles v = shown_inputs m e (run_of e cycles v) 0
