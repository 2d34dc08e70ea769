-- The shape of a model file's objects by what stands under their keys.
use Rattle.std.specs.Prelude.{Bool, true, false, List, [], Option, Some, None, option_and_then, codes}
use Rattle.wb_values.specs.Value.{Name, Sort, Value, Entries}
use Rattle.model_meaning.specs.Model.{StateDeclaration, InputDeclaration}
use Rattle.model_files.specs.Written.{WrittenTerm, WrittenMachine, machine, WrittenInstruction, WrittenInstructions, WrittenChild, no_child, WrittenModel}
use Rattle.model_files.specs.Shape.{if_there, list_in, unsigned_in, sort_in, term_in, initial_in, private_initial_in, state_declared_in, private_state_in, state_from, input_in, input_from, definition_in, update_in, instruction_from, child_from, all_instructions, model_from}
use Rattle.serde_json.specs.Data.{Data}
use Rattle.serde_json.specs.Find.{get, as_str, as_array}
use Rattle.model_places.specs.ShapePlaces.{under, private_sort_in}

abbrev pub under_if_there : {A : Type 0} → (Data → Option A) → Name → Data → Option (Option A)
under_if_there f k d = if_there f (get k d)

-- the initial value of a private state or of another one
abbrev pub initial_of : (is_private : Bool) → Sort → Option Data → Option (Option Value)
initial_of true = private_initial_in
initial_of false = initial_in

-- the sort of a private state or of another one
abbrev pub sort_of : (is_private : Bool) → Data → Option Sort
sort_of true = private_sort_in
sort_of false = sort_in

abbrev pub state_of : (is_private : Bool) → Data → Option StateDeclaration
state_of true = private_state_in
state_of false = state_declared_in

abbrev pub state_under : (is_private : Bool) → Data → Option StateDeclaration
state_under p d = state_from (initial_of p) (under as_str (codes "name") d) (under sort_in (codes "sort") d) (get (codes "init") d)

abbrev pub input_under : Data → Option InputDeclaration
input_under d = input_from (under as_str (codes "name") d) (under sort_in (codes "sort") d)

-- a list that may be absent is then empty
abbrev pub or_empty : {A : Type 0} → Option (Option (List A)) → Option (List A)
or_empty (Some None) = Some []
or_empty (Some (Some xs)) = Some xs
or_empty None = None

abbrev pub machine_of_parts : Option WrittenInstructions → Option (List StateDeclaration) → Option (Entries WrittenTerm) → Option (Option WrittenTerm) → Option WrittenTerm → Option WrittenMachine
machine_of_parts (Some is) (Some ss) (Some ds) (Some f) (Some v) = Some (machine ss ds f v is)
machine_of_parts _ _ _ _ _ = None

abbrev pub machine_under : (is_private : Bool) → Data → Option WrittenInstructions → Option WrittenMachine
machine_under p d is =
    machine_of_parts is (under (list_in (state_of p)) (codes "states") d) (or_empty (under_if_there (list_in definition_in) (codes "define") d))
    (under_if_there term_in (codes "fetch") d) (under term_in (codes "valid") d)

abbrev pub instruction_list : Data → Option WrittenInstructions
instruction_list d = option_and_then all_instructions (as_array d)

abbrev pub child_parts : Data → Option WrittenChild
child_parts d = child_from (under unsigned_in (codes "steps") d) (machine_under true d (under instruction_list (codes "instructions") d))

abbrev pub child_found : Option Data → Option WrittenChild
child_found None = Some no_child
child_found (Some d) = child_parts d

abbrev pub instruction_parts : Data → Option WrittenInstruction
instruction_parts d =
    instruction_from (under as_str (codes "name") d) (under term_in (codes "decode") d) (under update_in (codes "update") d)
    (child_found (get (codes "child") d))

abbrev pub model_parts : Data → Option WrittenModel
model_parts d =
    model_from (under as_str (codes "name") d) (under (list_in input_in) (codes "inputs") d)
    (machine_under false d (under instruction_list (codes "instructions") d))
