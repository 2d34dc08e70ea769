use Rattle.std.proofs.Common.{◌∙◌, map, ap, arith}
use Rattle.std.specs.String.{string_bytes}
use Rattle.ila_model.specs.Meaning.{program_of}
use Rattle.ila_model.specs.Scope.{nesting}
use Rattle.map_names.proofs.Gathered.{name_end, drop_past, instructions_called}
use Rattle.map_names.proofs.listed.instruction_names.Goals as goal

pub returns : goal.returns
returns c =
    name_end _ _ _
    (ap (map (λ i. string_bytes i.name)) (drop_past c.args.model.now.parts.instructions.items c.loop-instruction.instruction-index (omega arith)))
    c.loop-instruction.invariant
    ∙ instructions_called c.args.model.now.parts.terms (program_of c.args.model.now.parts.terms c.args.model.now.parts.children.items nesting)
    c.args.model.now.parts.instructions.items
