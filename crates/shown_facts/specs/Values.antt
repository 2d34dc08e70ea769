-- The values of a run that is given by its first registers and its inputs.
use Rattle.std.specs.Prelude.{ℕ, zero, suc, List, [], ◌∷◌, length, All}
use Rattle.wb_values.specs.Value.{Value}
use Rattle.model_meaning.specs.Model.{Model}
use Rattle.wb_terms.specs.Environment.{AreOfSorts}
use Rattle.ila_model.specs.Model.{model_of}
use Rattle.v_design.specs.declared.values.Registers.{Registers}
use Rattle.v_design.specs.declared.values.Inputs.{Inputs}
use Rattle.v_design.specs.Seen.{register_values, input_values}
use Rattle.v_design.specs.Parts.{Parts, registers_of, inputs_of}
use Rattle.mapped_designs.specs.Mapped.{Mapped, IsSortedFor}
use Rattle.mapped_designs.specs.View.{mapped_of}
use Rattle.mapped_designs.specs.Runs.{Values, zero_inputs}
use Rattle.shown_facts.specs.declared.given.Given.{Given}

-- the inputs at a cycle: those that are given, and 0 after the last of them
abbrev pub inputs_given : Parts → List Inputs → ℕ → List Value
inputs_given d [] t = zero_inputs d
inputs_given d (i ∷ is) zero = input_values i
inputs_given d (i ∷ is) (suc t) = inputs_given d is t

-- the values of a run from these registers under these inputs
abbrev pub values_given : Parts → Registers → List Inputs → Values
values_given d r is = record { first = register_values r; inputs = inputs_given d is }

abbrev pub model_in : Given → Model
model_in g = model_of g.model.now

abbrev pub map_in : Given → Mapped
map_in g = mapped_of g.mapped.now

abbrev pub values_in : Given → Values
values_in g = values_given (mapped_of g.mapped.now).parts g.registers.now g.inputs.now

-- for how many cycles there are inputs
abbrev pub cycles_in : Given → ℕ
cycles_in g = length g.inputs.now

-- The terms of the map are of the model's sorts, and registers and inputs are of the design's.
pub record IsGiven (g : Given) : Type 0 where
  pub sorted : IsSortedFor (model_in g) (map_in g)
  pub registers : AreOfSorts (registers_of (map_in g).parts) (register_values g.registers.now)
  pub inputs : All (λ (i : Inputs). AreOfSorts (inputs_of (map_in g).parts) (input_values i)) g.inputs.now
