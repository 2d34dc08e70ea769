use Rattle.std.proofs.Common.{◌≡◌, drop}
use Rattle.ila_model.specs.Sorted.{are_instructions}
use Rattle.ila_model.proofs.sorted.are_instructions.Given as goal

abbrev pub invariant-loop-instruction : goal.invariant-loop-instruction
invariant-loop-instruction l =
    are_instructions l.parts l.at 0 l.instructions ≡ are_instructions l.parts l.at l.next (drop l.instruction-index l.instructions)
