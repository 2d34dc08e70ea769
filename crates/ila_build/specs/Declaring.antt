-- The table's entries for declared states and inputs.
use Rattle.wb_values.specs.Value.{Name, Sort}
use Rattle.model_meaning.specs.Model.{StateDeclaration, InputDeclaration}

abbrev pub state_entry : StateDeclaration → Name × Sort
state_entry s = (s.state_name, s.sort)

abbrev pub input_entry : InputDeclaration → Name × Sort
input_entry i = (i.input_name, i.sort)
