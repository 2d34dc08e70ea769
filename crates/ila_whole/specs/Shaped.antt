-- What the shape of a model file gives besides what its rules ask: which declarations state initial values, and which are memories.
use Rattle.std.specs.Prelude.{Bool, not, ◌&&◌, ◌||◌, List, is_some, is_none}
use Rattle.std.specs.List.{list_all}
use Rattle.model_meaning.specs.Model.{StateDeclaration, InputDeclaration}
use Rattle.model_files.specs.Written.{WrittenMachine, machine, WrittenModel, states_in, machines_below}
use Rattle.model_meaning.specs.Term.{is_memory_sort}

-- A memory states no initial value.
abbrev pub is_top_state : StateDeclaration → Bool
is_top_state s = not (is_memory_sort s.sort) || is_none s.init

-- A private state is no memory, and states an initial value.
abbrev pub is_private_state : StateDeclaration → Bool
is_private_state s = not (is_memory_sort s.sort) && is_some s.init

-- An input is no memory.
abbrev pub is_plain_input : InputDeclaration → Bool
is_plain_input i = not (is_memory_sort i.sort)

abbrev pub has_private_states : WrittenMachine → Bool
has_private_states m = list_all is_private_state (states_in m)

-- the machines of the child programs in a machine
abbrev pub machines_inside : WrittenMachine → List WrittenMachine
machines_inside (machine ss ds f v is) = machines_below is

abbrev pub is_shaped : WrittenModel → Bool
is_shaped m = list_all is_plain_input m.inputs && (list_all is_top_state (states_in m.top) && list_all has_private_states (machines_inside m.top))
