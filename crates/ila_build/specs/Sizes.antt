-- How many terms are put at most for what is written: one for each name, constant and operator, and one for each declared state.
use Rattle.std.specs.Prelude.{ℕ, suc, ◌+◌, List, [], ◌∷◌, length, Option, Some, None}
use Rattle.wb_values.specs.Value.{Name, Entries}
use Rattle.model_files.specs.Written.{WrittenTerm, name, constant_truth, const, unary, binary, extract, widen, ite, store, WrittenInstruction, instruction, WrittenInstructions, no_instructions, and_then, WrittenMachine, machine, WrittenChild, WrittenModel, machines_in, machines_below, machines_of_child}
use Rattle.wb_terms.specs.declared.nodes.TermId.{TermId}

-- A name that stands for a term takes none. An unknown one is put as false.
abbrev pub terms_of_name : Option TermId → ℕ
terms_of_name (Some id) = 0
terms_of_name None = 1

-- the terms that are put for a written one, by what its names stand for
abbrev pub terms_for : (Name → Option TermId) → WrittenTerm → ℕ
terms_for at (name n) = terms_of_name (at n)
terms_for at (constant_truth b) = 1
terms_for at (const w x) = 1
terms_for at (unary op x) = suc (terms_for at x)
terms_for at (binary op x y) = suc (terms_for at x + terms_for at y)
terms_for at (extract h l x) = suc (terms_for at x)
terms_for at (widen z n x) = suc (terms_for at x)
terms_for at (ite c x y) = suc (terms_for at c + terms_for at x + terms_for at y)
terms_for at (store m i x) = suc (terms_for at m + terms_for at i + terms_for at x)

-- the names, constants and operators of a written term
abbrev pub size_of : WrittenTerm → ℕ
size_of w = terms_for (λ n. None) w

-- those of definitions, or of updates
abbrev pub sizes_of : Entries WrittenTerm → ℕ
sizes_of [] = 0
sizes_of (d ∷ ds) = size_of d.1 + sizes_of ds

abbrev pub fetch_size : Option WrittenTerm → ℕ
fetch_size None = 0
fetch_size (Some w) = size_of w

-- those of an instruction itself: its child is not counted
abbrev pub instruction_size : WrittenInstruction → ℕ
instruction_size (instruction called decode update program) = size_of decode + sizes_of update

abbrev pub instruction_sizes : WrittenInstructions → ℕ
instruction_sizes no_instructions = 0
instruction_sizes (and_then i is) = instruction_size i + instruction_sizes is

-- those of a machine itself
abbrev pub own_size : WrittenMachine → ℕ
own_size (machine ss ds f v is) = sizes_of ds + (fetch_size f + (size_of v + instruction_sizes is))

-- those of a machine itself, and its states
abbrev pub machine_size : WrittenMachine → ℕ
machine_size (machine ss ds f v is) = length ss + own_size (machine ss ds f v is)

abbrev pub machine_sizes : List WrittenMachine → ℕ
machine_sizes [] = 0
machine_sizes (m ∷ ms) = machine_size m + machine_sizes ms

-- those of child programs, and of those inside them
abbrev pub size_below : WrittenInstructions → ℕ
size_below is = machine_sizes (machines_below is)

abbrev pub size_of_child : WrittenChild → ℕ
size_of_child p = machine_sizes (machines_of_child p)

-- the names, constants and operators of a whole file, its states, private ones too, and its inputs
abbrev pub file_size : WrittenModel → ℕ
file_size m = length m.inputs + machine_sizes (machines_in m.top)
