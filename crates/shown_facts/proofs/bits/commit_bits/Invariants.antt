use Rattle.std.proofs.Common.{◌≡◌, map, take}
use Rattle.wb_values.specs.Value.{as_truth}
use Rattle.wb_terms.specs.Environment.{value_of}
use Rattle.shown_facts.proofs.bits.commit_bits.Given as goal

abbrev pub invariant-loop-instruction : goal.invariant-loop-instruction
invariant-loop-instruction l =
    l.bits.items ≡ map (λ i. as_truth (value_of l.mapped.design.terms l.cycle.env i.commit.0)) (take l.instruction-index l.instructions)
