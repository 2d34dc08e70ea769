use Rattle.std.proofs.Common.{◌≡◌, ◌++◌, map, drop}
use Rattle.std.specs.String.{string_bytes}
use Rattle.map_names.specs.Texts.{texts}
use Rattle.map_names.proofs.listed.instruction_names.Given as goal

abbrev pub invariant-loop-instruction : goal.invariant-loop-instruction
invariant-loop-instruction l =
    (texts l.names.items ++ map (λ i. string_bytes i.name) (drop l.instruction-index l.model.parts.instructions.items))
    ≡ map (λ i. string_bytes i.name) l.model.parts.instructions.items
