-- Child programs of a model's parts down to so many levels, and how great bounds are there.
use Rattle.std.specs.Prelude.{◌≡◌, ℕ, zero, suc, ◌+◌, ◌-◌, ◌*◌, ◌<◌, ◌≤◌, List, Option}
use Rattle.model_meaning.specs.Model as pure
use Rattle.model_meaning.specs.Model.{Instructions}
use Rattle.ila_model.specs.declared.parts.Instruction.{Instruction}
use Rattle.ila_model.specs.declared.parts.ChildId.{ChildId}
use Rattle.ila_model.specs.declared.parts.Child.{Child}
use Rattle.ila_model.specs.declared.parts.Parts.{Parts}
use Rattle.ila_model.specs.Meaning.{machine_of, instructions_of, program_of}

-- the child program of an instruction, with the children inside it down to so many levels
abbrev pub program_within : Parts → ℕ → Option ChildId → pure.Child
program_within p l o = program_of p.terms p.children.items l o

-- instructions with their child programs, down to so many levels
abbrev pub instructions_within : Parts → ℕ → List Instruction → Instructions
instructions_within p l is = instructions_of p.terms (program_within p l) is

-- The child's program is that of the instruction. Children inside it have one level less.
pub record IsProgram (p : Parts) (l : ℕ) (o : Option ChildId) (c : Child) : Type 0 where
  pub level : 0 < l
  pub limit : c.steps ≤ 4096
  pub is_program : program_within p l o ≡ pure.child c.steps (machine_of p.terms (program_within p (l - 1)) c)

-- the greatest bound of an instruction with child programs down to so many levels
abbrev pub most_within : ℕ → ℕ
most_within zero = 1
most_within (suc l) = 2 + 4096 * most_within l
