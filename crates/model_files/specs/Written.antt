-- What a model file says before its names are looked up: its parts as they are written, in the order of the file.
use Rattle.std.specs.Prelude.{ℕ, Bool, List, [], ◌∷◌, ◌++◌, Option}
use Rattle.wb_values.specs.Value.{Name, Entries}
use Rattle.model_meaning.specs.Model.{StateDeclaration, InputDeclaration}

-- the operators with one and with two operands
pub data UnaryForm : Type 0 where
  not neg : UnaryForm

pub data BinaryForm : Type 0 where
  and or xor : BinaryForm
  add sub mul : BinaryForm
  shl lshr ashr : BinaryForm
  eq ult ule slt sle : BinaryForm
  concat load : BinaryForm

-- how a word is widened: by zeros, or by its top bit
pub data Widening : Type 0 where
  zext sext : Widening

-- A term: a name stands without its sort, and widths, indexes and numbers are as they are written.
pub data WrittenTerm : Type 0 where
  name : Name → WrittenTerm
  constant_truth : Bool → WrittenTerm
  const : (width value : ℕ) → WrittenTerm
  unary : UnaryForm → WrittenTerm → WrittenTerm
  binary : BinaryForm → WrittenTerm → WrittenTerm → WrittenTerm
  extract : (high low : ℕ) → WrittenTerm → WrittenTerm
  widen : Widening → (width : ℕ) → WrittenTerm → WrittenTerm
  ite : WrittenTerm → WrittenTerm → WrittenTerm → WrittenTerm
  store : WrittenTerm → WrittenTerm → WrittenTerm → WrittenTerm

mutual
  -- What a model and a child program have in common: states, definitions, fetch where there is one, the valid condition and
  -- the instructions. The widths of sorts and the initial values are as they are written.
  pub data WrittenMachine : Type 0 where
    machine : (states : List StateDeclaration) → (definitions : Entries WrittenTerm) → (fetch : Option WrittenTerm)
        → (valid : WrittenTerm) → (instructions : WrittenInstructions) → WrittenMachine

  pub data WrittenInstruction : Type 0 where
    instruction : (called : Name) → (decode : WrittenTerm) → (update : Entries WrittenTerm) → (program : WrittenChild) → WrittenInstruction

  pub data WrittenInstructions : Type 0 where
    no_instructions : WrittenInstructions
    and_then : WrittenInstruction → WrittenInstructions → WrittenInstructions

  pub data WrittenChild : Type 0 where
    no_child : WrittenChild
    child : (steps : ℕ) → (program : WrittenMachine) → WrittenChild

-- A model file: the model's name, its inputs, and its machine.
pub record WrittenModel : Type 0 where
  pub model_name : Name
  pub inputs : List InputDeclaration
  pub top : WrittenMachine

abbrev pub states_in : WrittenMachine → List StateDeclaration
states_in (machine ss ds f v is) = ss

abbrev mutual
  -- a machine and the machines of its instructions' children, in the order of the file
  pub machines_in : WrittenMachine → List WrittenMachine
  machines_in (machine ss ds f v is) = machine ss ds f v is ∷ machines_below is

  pub machines_below : WrittenInstructions → List WrittenMachine
  machines_below no_instructions = []
  machines_below (and_then i is) = machines_of_instruction i ++ machines_below is

  pub machines_of_instruction : WrittenInstruction → List WrittenMachine
  machines_of_instruction (instruction n d u program) = machines_of_child program

  pub machines_of_child : WrittenChild → List WrittenMachine
  machines_of_child no_child = []
  machines_of_child (child steps program) = machines_in program
