-- The size of a model, by which the length of its emitted texts is bounded.
use Rattle.std.specs.Prelude.{ℕ, suc, ◌+◌, ◌*◌, [], ◌∷◌, length}
use Rattle.wb_values.specs.Value.{Entries}
use Rattle.model_meaning.specs.Term.{Term, name, constant_truth, const, not, neg, and, or, xor, add, sub, mul, shl, lshr, ashr, eq, ult, ule, slt, sle, concat, extract, zext, sext, ite, load, store}
use Rattle.model_meaning.specs.Model.{Model, Machine, machine, Instruction, instruction, Instructions, no_instructions, and_then, Child, no_child, child}

-- The nodes of a term as a tree. (Definitions and fetch have been put in.)
abbrev pub node_count : Term → ℕ
node_count (name n s) = 1
node_count (constant_truth b) = 1
node_count (const w x) = 1
node_count (not x) = suc (node_count x)
node_count (neg x) = suc (node_count x)
node_count (and x y) = suc (node_count x + node_count y)
node_count (or x y) = suc (node_count x + node_count y)
node_count (xor x y) = suc (node_count x + node_count y)
node_count (add x y) = suc (node_count x + node_count y)
node_count (sub x y) = suc (node_count x + node_count y)
node_count (mul x y) = suc (node_count x + node_count y)
node_count (shl x n) = suc (node_count x + node_count n)
node_count (lshr x n) = suc (node_count x + node_count n)
node_count (ashr x n) = suc (node_count x + node_count n)
node_count (eq x y) = suc (node_count x + node_count y)
node_count (ult x y) = suc (node_count x + node_count y)
node_count (ule x y) = suc (node_count x + node_count y)
node_count (slt x y) = suc (node_count x + node_count y)
node_count (sle x y) = suc (node_count x + node_count y)
node_count (concat x y) = suc (node_count x + node_count y)
node_count (extract h l x) = suc (node_count x)
node_count (zext n x) = suc (node_count x)
node_count (sext n x) = suc (node_count x)
node_count (ite c x y) = suc (node_count c + node_count x + node_count y)
node_count (load m i) = suc (node_count m + node_count i)
node_count (store m i x) = suc (node_count m + node_count i + node_count x)

-- one for each update, and the nodes of its term
abbrev pub update_size : Entries Term → ℕ
update_size [] = 0
update_size (u ∷ us) = suc (node_count u.1) + update_size us

abbrev mutual
  -- one for each state, the nodes of the valid condition, and the instructions
  pub machine_size : Machine → ℕ
  machine_size (machine states valid instructions) = length states + node_count valid + instructions_size instructions

  -- one for each instruction, the nodes of its decode condition, its updates, and its child
  pub instructions_size : Instructions → ℕ
  instructions_size no_instructions = 0
  instructions_size (and_then i is) = instruction_size i + instructions_size is

  pub instruction_size : Instruction → ℕ
  instruction_size (instruction called decode update program) = suc (node_count decode) + update_size update + child_size program

  pub child_size : Child → ℕ
  child_size no_child = 0
  child_size (child steps program) = machine_size program

-- How many states, inputs, instructions and updates the whole model has, its child programs too, and nodes of their conditions and updates.
abbrev pub model_size : Model → ℕ
model_size m = length m.inputs + machine_size m.top

-- the most bytes that an emitted text of the model may have
abbrev pub most_bytes : Model → ℕ
most_bytes m = 4096 * (model_size m + 16)
