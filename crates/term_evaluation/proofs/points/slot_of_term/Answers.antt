use Rattle.std.proofs.Common.{refl}
use Rattle.term_evaluation.proofs.LinkLemmas.{slot_of_truth, slot_of_word, slot_of_memory}
use Rattle.term_evaluation.proofs.points.slot_of_term.Goals as goal

pub returns-in-Truth-clause-value : goal.returns-in-Truth-clause-value
returns-in-Truth-clause-value c v h l = slot_of_truth v c.args.word.width c.args.word.value _ (rw c.in-Truth.is at h) refl

pub returns-in-Word-clause-value : goal.returns-in-Word-clause-value
returns-in-Word-clause-value c v h l = slot_of_word c.in-Word.field-0 v c.args.word.width c.args.word.value (rw c.in-Word.is at h)

pub returns-in-Memory-clause-slot : goal.returns-in-Memory-clause-slot
returns-in-Memory-clause-slot c v h l = (slot_of_memory c.args.pool.now c.in-Memory.depth c.in-Memory.field-1 v c.args.link (rw c.in-Memory.is at l)).0

pub returns-in-Memory-clause-value : goal.returns-in-Memory-clause-value
returns-in-Memory-clause-value c v h l = (slot_of_memory c.args.pool.now c.in-Memory.depth c.in-Memory.field-1 v c.args.link (rw c.in-Memory.is at l)).1
