-- Instructions of the code's record of a model.
use Rattle.model_meaning.specs.Model as pure
use Rattle.ila_model.specs.declared.model.IlaModel.{IlaModel}
use Rattle.ila_model.specs.declared.parts.Instruction.{Instruction}
use Rattle.ila_model.specs.Scope.{nesting}
use Rattle.ila_model.specs.Meaning.{instruction_of, program_of}

-- the instruction that an instruction of the model's own stands for
abbrev pub top_instruction : IlaModel → Instruction → pure.Instruction
top_instruction m i = instruction_of m.parts.terms (program_of m.parts.terms m.parts.children.items nesting) i
