use Rattle.std.proofs.Common.{◌≤◌, ◌+◌, length, drop}
use Rattle.ila_file.specs.View.{instructions_view}
use Rattle.ila_build.specs.Sizes.{instruction_sizes}
use Rattle.ila_build.specs.Standing.{IsGrown}
use Rattle.ila_build.proofs.InstructionLemmas.{AreToPut}
use Rattle.ila_build.proofs.instructions.put_instructions.Given as goal

abbrev pub invariant-loop-place : goal.invariant-loop-place
invariant-loop-place l = IsGrown l.fn.terms l.terms × AreToPut l.fn.terms l.known l.fetch l.terms l.links l.put.items l.place (instructions_view (drop l.place l.instructions)) (instructions_view l.instructions)
    × (length l.terms.nodes + instruction_sizes (instructions_view (drop l.place l.instructions)) ≤ length l.fn.terms.nodes + instruction_sizes (instructions_view l.instructions))
