use Rattle.std.proofs.Common.{ap, arith}
use Rattle.wb_values.specs.Value.{words}
use Rattle.term_evaluation.proofs.SlotLemmas.{sixteen}
use Rattle.term_evaluation.proofs.slots.zero_slot.Goals as goal

pub returns-in-Memory-clause-slot : goal.returns-in-Memory-clause-slot
returns-in-Memory-clause-slot c =
    let small = sixteen c.in-Memory.depth c.in-Memory.field-1 (rw c.in-Memory.is at c.requires) in
    (omega (arith, small), c.zeros.ensures.memory c.in-Memory.depth)

pub returns-in-Memory-clause-value : goal.returns-in-Memory-clause-value
returns-in-Memory-clause-value c = rw c.in-Memory.is (ap words (c.zeros.ensures.words c.in-Memory.depth))
