-- What a check is limited by once all rules are kept: the memory bits of the model and the design together, and the unrolled micro-steps
-- of an instruction.
use Rattle.std.specs.Prelude.{◌≡◌, ℕ, ◌+◌, ◌*◌, ◌^◌, ◌<◌, ◌≤◌, List, [], ◌∷◌, length, Option, Some, None, slice_get}
use Rattle.wb_values.specs.Value.{Sort, truth, word, memory, Entries}
use Rattle.model_meaning.specs.Model.{Model, StateDeclaration, Instruction, states_of, instructions_in}
use Rattle.model_results.specs.Results.{unrolled}
use Rattle.v_design.specs.Registers.{CountedBits}
use Rattle.v_design.specs.Parts.{Parts, registers_of}

-- the bits of a memory state of the model; what is no memory has none
abbrev pub state_bits_of : Sort → ℕ
state_bits_of truth = 0
state_bits_of (word w) = 0
state_bits_of (memory a d) = 2 ^ a * d

-- those of a register that is a memory, of the words that it has
abbrev pub register_bits_of : Sort → CountedBits → ℕ
register_bits_of truth c = 0
register_bits_of (word w) c = 0
register_bits_of (memory a d) c = length c.masks * d

abbrev pub state_bits : List StateDeclaration → ℕ
state_bits [] = 0
state_bits (d ∷ ds) = state_bits_of d.sort + state_bits ds

abbrev pub register_bits : Entries Sort → List CountedBits → ℕ
register_bits [] cs = 0
register_bits (n ∷ ns) [] = 0
register_bits (n ∷ ns) (c ∷ cs) = register_bits_of n.1 c + register_bits ns cs

-- The memory bits of a model and a design together: of each memory its words times their bits. (Inputs and private states of a model are
-- never memories; each memory of a design is one of its registers.)
abbrev pub memory_bits : Model → Parts → ℕ
memory_bits m d = state_bits (states_of m.top) + register_bits (registers_of d) d.bits

-- No instruction of the list takes more than 4,096 unrolled micro-steps.
abbrev pub AreUnrolledWithin : List Instruction → Type 0
AreUnrolledWithin is = (k : ℕ) (i : Instruction) → slice_get is k ≡ Some i → unrolled i ≤ 4096

-- The first instruction of the list that takes more than 4,096 takes so many.
pub record IsFirstOver (is : List Instruction) (steps : ℕ) : Type 0 where
  pub place : ℕ
  pub instruction : Instruction
  pub at_place : slice_get is place ≡ Some instruction
  pub takes : unrolled instruction ≡ steps
  pub over : 4096 < steps
  pub none_before : (k : ℕ) (i : Instruction) → k < place → slice_get is k ≡ Some i → unrolled i ≤ 4096

-- what is found of them: the first that takes more, or none
abbrev pub IsUnrolledLimit : List Instruction → Option ℕ → Type 0
IsUnrolledLimit is (Some steps) = IsFirstOver is steps
IsUnrolledLimit is None = AreUnrolledWithin is

pub data Limit : Type 0 where
  limit_memory : (bits : ℕ) → Limit
  limit_unroll : (steps : ℕ) → Limit

-- The limit that the model and the design are over, if they are over one. Memory comes first.
abbrev pub IsLimit : Model → Parts → Option Limit → Type 0
IsLimit m d (Some (limit_memory n)) = (n ≡ memory_bits m d) × (16384 < n)
IsLimit m d (Some (limit_unroll n)) = (memory_bits m d ≤ 16384) × IsFirstOver (instructions_in m.top) n
IsLimit m d None = (memory_bits m d ≤ 16384) × AreUnrolledWithin (instructions_in m.top)
