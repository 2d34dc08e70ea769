-- The first child that nests too deep, and the first that may take too many steps or none.
use Rattle.std.specs.Prelude.{ℕ, ◌+◌, ◌-◌, cond, ◌==◌, List, Option, Some, None, codes}
use Rattle.wb_values.specs.Value.{Name}
use Rattle.wb_values.specs.Choice.{first_of}
use Rattle.model_files.specs.Written.{WrittenMachine, machine, WrittenInstruction, instruction, WrittenInstructions, no_instructions, and_then, WrittenChild, no_child, child}
use Rattle.model_places.specs.Sites.{Way, into, key_spot, part_spot, instruction_spot}
use Rattle.model_places.specs.Notes.{note_at}
use Rattle.model_places.specs.Parts.{step_limit}
use Rattle.model_places.specs.First.{is_bad_limit}

abbrev mutual
  -- the note of the first child that nests deeper than so many levels below the machine, to which the way leads
  pub deeper_note : Way → (levels : ℕ) → WrittenMachine → Option (List ℕ)
  deeper_note way levels (machine ss ds f v is) = first_deeper way levels 0 is

  pub first_deeper : Way → (levels : ℕ) → ℕ → WrittenInstructions → Option (List ℕ)
  first_deeper way levels k no_instructions = None
  first_deeper way levels k (and_then i is) = first_of (instruction_deeper way levels k i) (first_deeper way levels (k + 1) is)

  pub instruction_deeper : Way → (levels : ℕ) → ℕ → WrittenInstruction → Option (List ℕ)
  instruction_deeper way levels k (instruction n d u program) = child_deeper way levels k n program

  pub child_deeper : Way → (levels : ℕ) → (index : ℕ) → (called : Name) → WrittenChild → Option (List ℕ)
  child_deeper way levels k n no_child = None
  child_deeper way levels k n (child steps program) =
      cond (levels == 0) (Some (note_at way (part_spot (instruction_spot k n) (codes "child")))) (deeper_note (into way k) (levels - 1) program)

abbrev mutual
  -- the note of the first child below the machine whose steps are not 1 to 4,096
  pub limit_note : Way → WrittenMachine → Option (List ℕ)
  limit_note way (machine ss ds f v is) = first_limit way 0 is

  pub first_limit : Way → ℕ → WrittenInstructions → Option (List ℕ)
  first_limit way k no_instructions = None
  first_limit way k (and_then i is) = first_of (instruction_limit way k i) (first_limit way (k + 1) is)

  pub instruction_limit : Way → ℕ → WrittenInstruction → Option (List ℕ)
  instruction_limit way k (instruction n d u program) = child_limit way k program

  pub child_limit : Way → ℕ → WrittenChild → Option (List ℕ)
  child_limit way k no_child = None
  child_limit way k (child steps program) =
      cond (is_bad_limit (step_limit steps)) (Some (note_at (into way k) (key_spot (codes "steps")))) (limit_note (into way k) program)

-- the same where the way leads to the child's own machine
abbrev pub limit_here : Way → WrittenChild → Option (List ℕ)
limit_here way no_child = None
limit_here way (child steps program) = cond (is_bad_limit (step_limit steps)) (Some (note_at way (key_spot (codes "steps")))) (limit_note way program)
