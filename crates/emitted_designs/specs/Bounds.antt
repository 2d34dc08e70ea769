-- Within how many cycles an instruction of an emitted design commits, and how deep child programs nest.
use Rattle.std.specs.Prelude.{ℕ, suc, max, ◌+◌, ◌*◌, Bool, nat_lt}
use Rattle.model_meaning.specs.Model.{Model, Machine, machine, Instruction, instruction, Instructions, no_instructions, and_then, Child, no_child, child}

abbrev mutual
  -- Without a child an instruction commits in its start cycle. With one it takes the start cycle, the child's micro-steps, each at most as
  -- long as the greatest bound of the child's instructions, and the cycle in which the child ends.
  pub instruction_bound : Instruction → ℕ
  instruction_bound (instruction called decode update program) = child_bound program

  pub child_bound : Child → ℕ
  child_bound no_child = 1
  child_bound (child steps program) = 2 + steps * machine_bound program

  -- the greatest bound of a machine's instructions; 1 where it has none
  pub machine_bound : Machine → ℕ
  machine_bound (machine states valid instructions) = bound_among instructions

  pub bound_among : Instructions → ℕ
  bound_among no_instructions = 1
  bound_among (and_then i is) = max (instruction_bound i) (bound_among is)

-- The greatest bound of a model's instructions.
abbrev pub greatest_bound : Model → ℕ
greatest_bound m = machine_bound m.top

-- the greatest bound that a map may state
abbrev pub most_cycles : ℕ
most_cycles = 256

abbrev mutual
  -- how many levels of child programs are in a machine
  pub nesting_of : Machine → ℕ
  nesting_of (machine states valid instructions) = nesting_among instructions

  pub nesting_among : Instructions → ℕ
  nesting_among no_instructions = 0
  nesting_among (and_then i is) = max (nesting_of_instruction i) (nesting_among is)

  pub nesting_of_instruction : Instruction → ℕ
  nesting_of_instruction (instruction called decode update program) = nesting_of_child program

  pub nesting_of_child : Child → ℕ
  nesting_of_child no_child = 0
  nesting_of_child (child steps program) = suc (nesting_of program)

-- Some instruction of the model has a child.
abbrev pub has_children : Model → Bool
has_children m = nat_lt 0 (nesting_of m.top)
