use Rattle.term_evaluation.proofs.evaluating.store_to.Goals as goal

pub store_in-requires-clause-depth : goal.store_in-requires-clause-depth
store_in-requires-clause-depth c = (rw c.in-Memory.is at c.requires.memory).0

pub store_in-requires-clause-memory : goal.store_in-requires-clause-memory
store_in-requires-clause-memory c = (rw c.in-Memory.is at c.requires.memory).1

pub returns-clause-memory : goal.returns-clause-memory
returns-clause-memory c = rw c.in-Memory.is ((rw c.in-Memory.is at c.requires.memory).0, c.in_ok-stored-in-Memory.ensures.memory)

pub returns-clause-words : goal.returns-clause-words
returns-clause-words c = rw c.in-Memory.is c.in_ok-stored-in-Memory.ensures.words
