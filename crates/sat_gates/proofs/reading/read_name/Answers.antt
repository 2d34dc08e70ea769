use Rattle.sat_gates.proofs.ReadingLemmas.{word_read, no_words, memory_read}
use Rattle.sat_gates.proofs.reading.read_name.Goals as goal

pub returns-in-Word-Some-clause-sort : goal.returns-in-Word-Some-clause-sort
returns-in-Word-Some-clause-sort c = rw c.in-Word-Some.is-0 (word_read _ _ _ _ c.read_number.ensures).0

pub returns-in-Word-Some-clause-read : goal.returns-in-Word-Some-clause-read
returns-in-Word-Some-clause-read c = rw (c.in-Word-Some.is-0, c.in-Word-Some.is-1) (word_read _ _ _ _ c.read_number.ensures).1

pub returns-in_ok-words-in-Memory-default-clause-sort : goal.returns-in_ok-words-in-Memory-default-clause-sort
returns-in_ok-words-in-Memory-default-clause-sort c = rw c.in-Memory-default.is-0 (no_words _ _ _ c.in_ok-words-in-Memory-default.ensures)

pub returns-in_ok-words-in-Memory-default-clause-read : goal.returns-in_ok-words-in-Memory-default-clause-read
returns-in_ok-words-in-Memory-default-clause-read c = rw c.in-Memory-default.is-0 (memory_read c.args.assignment.now c.args.first _ _ _ c.in_ok-words-in-Memory-default.ensures)
