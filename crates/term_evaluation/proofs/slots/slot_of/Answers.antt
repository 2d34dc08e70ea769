use Rattle.std.proofs.Common.{◌∙◌, ap, length, arith}
use Rattle.term_evaluation.proofs.SlotLemmas.{sixteen}
use Rattle.wb_terms.proofs.EnvironmentLemmas.{length-memory}
use Rattle.term_evaluation.proofs.slots.slot_of.Goals as goal

pub from_words-requires-clause-depth : goal.from_words-requires-clause-depth
from_words-requires-clause-depth c =
    let arm = c.in-Words-Memory in
    let small = sixteen arm.depth arm.field-1-1 (rw arm.is-1 at c.requires.in_range) in
    omega (arith, small)

pub from_words-requires-clause-words : goal.from_words-requires-clause-words
from_words-requires-clause-words c =
    let arm = c.in-Words-Memory in
    ap length c.deref.ensures.value ∙ length-memory arm.depth arm.field-1-1 arm.words.items (rw (arm.is-0, arm.is-1) at c.requires.sort)
