-- The names that a model file declares.
use Rattle.std.specs.Prelude.{List, [], ◌∷◌, ◌++◌, map}
use Rattle.wb_values.specs.Value.{Name}
use Rattle.model_files.specs.Written.{WrittenMachine, machine, instruction, WrittenInstructions, no_instructions, and_then, WrittenModel, machines_in}

-- the names of a machine's states and definitions
abbrev pub data_names : WrittenMachine → List Name
data_names (machine ss ds f v is) = map (λ s. s.state_name) ss ++ map (λ d. d.0) ds

abbrev pub instruction_names_in : WrittenInstructions → List Name
instruction_names_in no_instructions = []
instruction_names_in (and_then (instruction called decode update program) is) = called ∷ instruction_names_in is

abbrev pub instruction_names : WrittenMachine → List Name
instruction_names (machine ss ds f v is) = instruction_names_in is

abbrev pub joined : List (List Name) → List Name
joined [] = []
joined (ns ∷ rest) = ns ++ joined rest

-- the names of inputs, states and definitions of the whole file, private states too
abbrev pub all_data_names : WrittenModel → List Name
all_data_names m = map (λ i. i.input_name) m.inputs ++ joined (map data_names (machines_in m.top))

-- the names of instructions of the whole file
abbrev pub all_instruction_names : WrittenModel → List Name
all_instruction_names m = joined (map instruction_names (machines_in m.top))
