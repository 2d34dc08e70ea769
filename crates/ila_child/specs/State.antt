-- States and inputs of a model as lists of values, one for each declaration and of its sort, and what its names mean by them.
use Rattle.std.specs.Prelude.{List, map}
use Rattle.wb_values.specs.Value.{Sort, Value, Entries, Valuation, valuation_of}
use Rattle.model_meaning.specs.Model.{StateDeclaration, InputDeclaration, Model, states_of, value_or}
use Rattle.wb_terms.specs.Environment.{AreOfSorts, values_by_name}
use Rattle.ila_model.specs.Meaning.{zero_of}

abbrev pub sorts_of_states : List StateDeclaration → Entries Sort
sorts_of_states = map (λ s. (s.state_name, s.sort))

abbrev pub sorts_of_inputs : List InputDeclaration → Entries Sort
sorts_of_inputs = map (λ i. (i.input_name, i.sort))

-- There is a value for each state of the model, of its sort.
abbrev pub IsStateOf : Model → List Value → Type 0
IsStateOf m xs = AreOfSorts (sorts_of_states (states_of m.top)) xs

-- There is a value for each input of the model, of its sort.
abbrev pub AreInputsOf : Model → List Value → Type 0
AreInputsOf m xs = AreOfSorts (sorts_of_inputs m.inputs) xs

-- Each state has its value; every other name is 0.
abbrev pub state_valuation : Model → List Value → Valuation
state_valuation m xs = valuation_of (values_by_name (sorts_of_states (states_of m.top)) xs)

-- Each input has its value; every other name is 0.
abbrev pub input_valuation : Model → List Value → Valuation
input_valuation m xs = valuation_of (values_by_name (sorts_of_inputs m.inputs) xs)

-- The values with which states begin: the stated initial value, else the zero of the sort.
abbrev pub initial_values : List StateDeclaration → List Value
initial_values = map (λ s. value_or s.init (zero_of s.sort))
