-- Instruction-level models with child programs (Huang et al., Instruction-Level Abstraction, ACM TODAES 2018): their parts,
-- and what their conditions and updates give.
use Rattle.std.specs.Prelude.{ℕ, Bool, true, false, cond, List, [], ◌∷◌, Option, Some, None, is_some}
use Rattle.wb_values.specs.Value.{Name, same_name, Sort, Value, as_truth, Valuation, Entries, entry_of}
use Rattle.model_meaning.specs.Term.{Term, val}

-- a state: its name, its sort, and its initial value where one is stated
pub record StateDeclaration : Type 0 where
  pub state_name : Name
  pub sort : Sort
  pub init : Option Value

pub record InputDeclaration : Type 0 where
  pub input_name : Name
  pub sort : Sort

-- Definitions and fetch are names for terms. They are read where they are used, in the state of the step that uses them: so in
-- the terms below each such name has been replaced by its term.
mutual
  -- What a model and a child program have in common: states, the valid condition, and the instructions.
  pub data Machine : Type 0 where
    machine : (states : List StateDeclaration) → (valid : Term) → (instructions : Instructions) → Machine

  -- an instruction: its name, its decode condition, its updates of states, and perhaps a child program
  pub data Instruction : Type 0 where
    instruction : (called : Name) → (decode : Term) → (update : Entries Term) → (program : Child) → Instruction

  pub data Instructions : Type 0 where
    no_instructions : Instructions
    and_then : Instruction → Instructions → Instructions

  -- A child program: at most so many steps of a machine, whose states are private to it.
  pub data Child : Type 0 where
    no_child : Child
    child : (steps : ℕ) → (program : Machine) → Child

-- A model: its name, its inputs, and its machine.
pub record Model : Type 0 where
  pub model_name : Name
  pub inputs : List InputDeclaration
  pub top : Machine

abbrev pub states_of : Machine → List StateDeclaration
states_of (machine states _ _) = states

abbrev pub valid_of : Machine → Term
valid_of (machine _ valid _) = valid

abbrev pub instruction_list : Instructions → List Instruction
instruction_list no_instructions = []
instruction_list (and_then i is) = i ∷ instruction_list is

-- the instructions of a machine, in their order
abbrev pub instructions_in : Machine → List Instruction
instructions_in (machine _ _ is) = instruction_list is

abbrev pub instruction_name : Instruction → Name
instruction_name (instruction called decode update program) = called

abbrev pub decode_of : Instruction → Term
decode_of (instruction called decode update program) = decode

abbrev pub child_program : Instruction → Child
child_program (instruction called decode update program) = program

-- A state of a machine gives a value to each state of it and of the machines around it. Terms are read at a point: a state and
-- the inputs together. Within an instruction the inputs stay as they were at its start.

abbrev pub is_input_name : List InputDeclaration → Name → Bool
is_input_name [] n = false
is_input_name (i ∷ is) n = cond (same_name i.input_name n) true (is_input_name is n)

-- the point of a state and inputs: the inputs' names have the inputs' values
abbrev pub point_of : Model → Valuation → Valuation → Valuation
point_of m q w n = cond (is_input_name m.inputs n) (w n) (q n)

-- a condition holds at a point
abbrev pub holds : Term → Valuation → Bool
holds e p = as_truth (val e p)

abbrev pub updated_value : Option Term → Valuation → Value → Value
updated_value None p old = old
updated_value (Some e) p old = val e p

-- The point after updates: each state with an update has its value at the old point, the others keep theirs.
abbrev pub updated : Entries Term → Valuation → Valuation
updated update p n = updated_value (entry_of update n) p (p n)

abbrev pub state_named : List StateDeclaration → Name → Option StateDeclaration
state_named [] n = None
state_named (s ∷ ss) n = cond (same_name s.state_name n) (Some s) (state_named ss n)

abbrev pub value_or : Option Value → Value → Value
value_or None old = old
value_or (Some x) old = x

abbrev pub initial_value : Option StateDeclaration → Value → Value
initial_value None old = old
initial_value (Some s) old = value_or s.init old

-- a point with the private states of a child at their initial values
abbrev pub entered : List StateDeclaration → Valuation → Valuation
entered private p n = initial_value (state_named private n) (p n)

-- The point that a child leaves: its private states are gone, so their names mean again what they meant before.
abbrev pub left_behind : List StateDeclaration → (before last : Valuation) → Valuation
left_behind private before last n = cond (is_some (state_named private n)) (before n) (last n)
