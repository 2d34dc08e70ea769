-- The environment in which a step begins, and what the instruction that starts does.
use Rattle.std.specs.Prelude.{ℕ, ◌<◌, ◌≡◌, List, map, length, take, drop, Option, Some, None, slice_get}
use Rattle.wb_values.specs.Value as meaning
use Rattle.wb_values.specs.Value.{Sort, Entries, Valuation, HasSort}
use Rattle.model_meaning.specs.Model as pure
use Rattle.model_meaning.specs.Instruction.{DoesInstruction, InstructionTrouble, stuck, too_long}
use Rattle.model_meaning.specs.Instruction as instruction
use Rattle.ila_child.specs.declared.running.Trouble.{Trouble}
use Rattle.ila_child.specs.declared.running.Trouble.TheVariants.{Stuck, TooLong}
use Rattle.wb_terms.specs.Environment.{AreOfSorts}
use Rattle.ila_model.specs.declared.parts.Instruction.{Instruction}
use Rattle.ila_model.specs.declared.parts.Parts.{Parts}
use Rattle.ila_model.specs.Scope.{nesting}
use Rattle.ila_model.specs.Sorted.{name_at, sort_at}
use Rattle.ila_model.specs.Meaning.{zero_of, instruction_of, program_of}
use Rattle.ila_child.specs.declared.stepping.Stepped.{Stepped}
use Rattle.ila_child.specs.declared.stepping.Stepped.TheVariants.{Next, NotValid, NoInstruction, Several, ChildStuck, ChildTooLong}
use Rattle.ila_child.specs.declared.runs.Moved.{Moved}
use Rattle.ila_child.specs.declared.runs.Moved.TheVariants.{ChildStuck as StuckChild, ChildTooLong as TooLongChild}
use Rattle.ila_child.specs.Updating.{value_at}
use Rattle.ila_child.specs.Running.{trouble_of}

abbrev pub zeros_of : Entries Sort → List meaning.Value
zeros_of = map (λ n. zero_of n.1)

-- The names of the states have the values of a state, and those of the inputs the values of inputs.
pub record IsPointOf (p : Parts) (q w xs : List meaning.Value) : Type 0 where
  pub fits : AreOfSorts p.terms.names xs
  pub state : take (length p.initial_values.items) xs ≡ q
  pub inputs : take p.inputs (drop (length p.initial_values.items) xs) ≡ w

-- The states have the values of a point.
pub record HasStates (p : Parts) (xs : List meaning.Value) (after : Valuation) : Type 0 where
  pub count : length xs ≡ length p.initial_values.items
  pub value : (k : ℕ) → k < length xs → value_at xs k ≡ after (name_at p.terms.names k)
  pub sorted : (k : ℕ) → k < length xs → HasSort (value_at xs k) (sort_at p.terms.names k)

-- The instruction of the code at a place, as an instruction of the model.
abbrev pub started : Parts → Instruction → pure.Instruction
started p i = instruction_of p.terms (program_of p.terms p.children.items nesting) i

abbrev pub IsLed : Parts → Valuation → ℕ → List meaning.Value → Type 0
IsLed p v k xs = (i : Instruction) × (after : Valuation) × (slice_get p.instructions.items k ≡ Some i) × DoesInstruction (started p i) v after × HasStates p xs after

abbrev pub IsTroubledAt : Parts → Valuation → ℕ → instruction.Trouble → Type 0
IsTroubledAt p v k t = (i : Instruction) × (slice_get p.instructions.items k ≡ Some i) × InstructionTrouble (started p i) v 1 t

abbrev pub IsStart : Parts → Valuation → ℕ → Stepped → Type 0
IsStart p v k (Next j r) = (j ≡ k) × IsLed p v k r
IsStart p v k NotValid = ⊥
IsStart p v k NoInstruction = ⊥
IsStart p v k (Several i j) = ⊥
IsStart p v k (ChildStuck d s) = IsTroubledAt p v k (stuck d s)
IsStart p v k (ChildTooLong d) = IsTroubledAt p v k (too_long d)

-- What the instruction of the code at a place does: it leads to these values of the names, or its child has trouble.
abbrev pub IsGoingOn : Parts → Valuation → ℕ → List meaning.Value → Option Trouble → Type 0
IsGoingOn p v k xs None = IsLed p v k (take (length p.initial_values.items) xs)
IsGoingOn p v k xs (Some t) = IsTroubledAt p v k (trouble_of t)

-- the answer where a child has trouble
abbrev pub stop_of : Trouble → Moved
stop_of (Stuck d s) = StuckChild d s
stop_of (TooLong d) = TooLongChild d
