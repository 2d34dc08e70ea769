-- Names of a model's instructions.
use Rattle.std.proofs.Common.{◌≡◌, refl, ap, List, [], ◌∷◌, map, Option}
use Rattle.model_meaning.specs.Model.{Child, instructions_in, instruction_list, instruction_name}
use Rattle.wb_terms.specs.Graph.{Graph}
use Rattle.ila_model.specs.declared.model.IlaModel.{IlaModel}
use Rattle.ila_model.specs.declared.parts.ChildId.{ChildId}
use Rattle.ila_model.specs.declared.parts.Instruction.{Instruction}
use Rattle.ila_model.specs.Meaning.{instructions_of, program_of}
use Rattle.ila_model.specs.Scope.{nesting}
use Rattle.ila_model.specs.Model.{model_of}
use Rattle.map_terms.specs.View.{called_of}

all_called : (g : Graph) (inner : Option ChildId → Child) (is : List Instruction) → map instruction_name (instruction_list (instructions_of g inner is)) ≡ map called_of is
all_called g inner [] = refl
all_called g inner (i ∷ is) = ap (λ ns. called_of i ∷ ns) (all_called g inner is)

pub instructions_called : (m : IlaModel) → map instruction_name (instructions_in (model_of m).top) ≡ map called_of m.parts.instructions.items
instructions_called m = all_called m.parts.terms (program_of m.parts.terms m.parts.children.items nesting) m.parts.instructions.items
