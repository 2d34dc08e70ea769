-- What every model keeps, its child programs included: legal and distinct names, private states that begin, memories that are
-- never copied.
use Rattle.std.specs.Prelude.{Bool, true, false, not, ◌&&◌, ◌||◌, List, [], ◌∷◌, ◌++◌, map, Option, Some, None, IsTrue, IsFalse}
use Rattle.std.specs.List.{list_all}
use Rattle.std.specs.Coded.{Coded-set, coded_bool}
use Rattle.wb_values.specs.Value.{Name, same_name, Sort, Value, Entries, is_of_sort}
use Rattle.wb_values.specs.Names.{is_model_name}
use Rattle.model_meaning.specs.Among.{has_twice}
use Rattle.model_meaning.specs.Term as term
use Rattle.model_meaning.specs.Term.{Term, is_memory_sort}
use Rattle.model_meaning.specs.Model.{StateDeclaration, Model, Machine, machine, Instruction, instruction, instruction_name, Instructions, no_instructions, and_then, Child, no_child, child, states_of, state_named, instructions_in}

-- ---- the machines of a model

abbrev mutual
  -- a machine and those of the child programs in it, however deep, in the order of the instructions
  pub all_machines : Machine → List Machine
  all_machines (machine states valid instructions) = machine states valid instructions ∷ program_machines instructions

  pub program_machines : Instructions → List Machine
  program_machines no_instructions = []
  program_machines (and_then i is) = instruction_machines i ++ program_machines is

  pub instruction_machines : Instruction → List Machine
  instruction_machines (instruction called decode update program) = child_machines program

  pub child_machines : Child → List Machine
  child_machines no_child = []
  child_machines (child steps program) = all_machines program

-- the machines of the child programs, without the machine itself
abbrev pub inner_machines : Machine → List Machine
inner_machines (machine states valid instructions) = program_machines instructions

-- what each machine has, in one list
abbrev pub gathered : {A : Type 0} → (Machine → List A) → List Machine → List A
gathered f [] = []
gathered f (m ∷ ms) = f m ++ gathered f ms

-- ---- names

abbrev pub state_names : Machine → List Name
state_names m = map (λ s. s.state_name) (states_of m)

abbrev pub own_instruction_names : Machine → List Name
own_instruction_names m = map instruction_name (instructions_in m)

-- the names of inputs, states and private states: those that stand for values
abbrev pub valued_names : Model → List Name
valued_names m = map (λ i. i.input_name) m.inputs ++ gathered state_names (all_machines m.top)

-- the names of all instructions, those of child programs too
abbrev pub instruction_names_of : Model → List Name
instruction_names_of m = gathered own_instruction_names (all_machines m.top)

-- ---- private states

abbrev pub all_private_states : Model → List StateDeclaration
all_private_states m = gathered states_of (inner_machines m.top)

abbrev pub is_no_memory : StateDeclaration → Bool
is_no_memory s = not (is_memory_sort s.sort)

abbrev pub is_value_of : Sort → Option Value → Bool
is_value_of s None = false
is_value_of s (Some x) = is_of_sort s x

-- an initial value of the state's sort is stated
abbrev pub has_initial_value : StateDeclaration → Bool
has_initial_value s = is_value_of s.sort s.init

-- ---- memories

-- a term that is a memory with words stored to it: the memory itself, a store to such a term, or an ite of two such terms
abbrev pub is_memory_with_stores : Name → Term → Bool
is_memory_with_stores n (term.name k s) = same_name k n
is_memory_with_stores n (term.store m i x) = is_memory_with_stores n m
is_memory_with_stores n (term.ite c x y) = is_memory_with_stores n x && is_memory_with_stores n y
is_memory_with_stores n _ = false

abbrev pub is_memory_state : Option StateDeclaration → Bool
is_memory_state None = false
is_memory_state (Some s) = is_memory_sort s.sort

-- Where the updated name is a memory among these states, the update is that memory with words stored to it.
abbrev pub keeps_memory : List StateDeclaration → Name × Term → Bool
keeps_memory states u = not (is_memory_state (state_named states u.0)) || is_memory_with_stores u.0 u.1

abbrev pub own_updates : Instruction → Entries Term
own_updates (instruction called decode update program) = update

abbrev pub keeps_memories : List StateDeclaration → Machine → Bool
keeps_memories states m = list_all (λ i. list_all (keeps_memory states) (own_updates i)) (instructions_in m)

-- ---- the rules

pub record IsModel (m : Model) : Type 0 where
  -- the model's own name may be the name of a model
  pub legal_name : IsTrue (is_model_name m.model_name)
  -- each input, state and private state has a legal name, and no two of the whole model share one
  pub legal_names : IsTrue (list_all is_model_name (valued_names m))
  pub distinct_names : IsFalse (has_twice (valued_names m))
  -- so have instructions, which may share names with states
  pub legal_instruction_names : IsTrue (list_all is_model_name (instruction_names_of m))
  pub distinct_instruction_names : IsFalse (has_twice (instruction_names_of m))
  -- a private state is a truth value or a word, and begins with a stated value of its sort
  pub no_private_memory : IsTrue (list_all is_no_memory (all_private_states m))
  pub private_states_begin : IsTrue (list_all has_initial_value (all_private_states m))
  -- The memories are those of the model's own states. No instruction, of a child program neither, copies one.
  pub no_copied_memory : IsTrue (list_all (keeps_memories (states_of m.top)) (all_machines m.top))

-- A model keeps the rules in one way only.
pub IsModel-prop : (m : Model) → IsProp (IsModel m)
IsModel-prop m x y i = record {
  legal_name = Coded-set coded_bool _ _ x.legal_name y.legal_name i;
  legal_names = Coded-set coded_bool _ _ x.legal_names y.legal_names i;
  distinct_names = Coded-set coded_bool _ _ x.distinct_names y.distinct_names i;
  legal_instruction_names = Coded-set coded_bool _ _ x.legal_instruction_names y.legal_instruction_names i;
  distinct_instruction_names = Coded-set coded_bool _ _ x.distinct_instruction_names y.distinct_instruction_names i;
  no_private_memory = Coded-set coded_bool _ _ x.no_private_memory y.no_private_memory i;
  private_states_begin = Coded-set coded_bool _ _ x.private_states_begin y.private_states_begin i;
  no_copied_memory = Coded-set coded_bool _ _ x.no_copied_memory y.no_copied_memory i;
}
