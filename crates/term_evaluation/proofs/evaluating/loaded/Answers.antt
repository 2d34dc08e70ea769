use Rattle.std.proofs.Common.{◌∙◌, ◌<◌, ◌^◌, sym, subst}
use Rattle.term_evaluation.proofs.LinkLemmas.{width_bounds, below_anywhere}
use Rattle.sparse_memories.specs.Memories.{words_of}
use Rattle.term_evaluation.proofs.evaluating.loaded.Goals as goal

pub load_in-word-requires-clause-depth : goal.load_in-word-requires-clause-depth
load_in-word-requires-clause-depth c = (rw c.in-Memory.is at c.requires.memory).0

pub load_in-word-requires-clause-memory : goal.load_in-word-requires-clause-memory
load_in-word-requires-clause-memory c = (rw c.in-Memory.is at c.requires.memory).1

pub new-requires-clause-some_bits : goal.new-requires-clause-some_bits
new-requires-clause-some_bits c = (width_bounds c.in-Memory.width (rw c.in-Memory.is at c.requires.memory).2).0

pub new-requires-clause-at_most_128 : goal.new-requires-clause-at_most_128
new-requires-clause-at_most_128 c = (width_bounds c.in-Memory.width (rw c.in-Memory.is at c.requires.memory).2).1

pub new-requires-clause-fits : goal.new-requires-clause-fits
new-requires-clause-fits c =
    let m = rw c.in-Memory.is at c.requires.memory in
    subst (λ n. n < 2 ^ c.in-Memory.width) (sym c.load_in-word.ensures) (below_anywhere c.in-Memory.width (words_of c.args.pool.now c.in-Memory.depth c.args.link) c.args.address.value m.3)

pub returns-clause-width : goal.returns-clause-width
returns-clause-width c = rw c.in-Memory.is c.new.ensures.width

pub returns-clause-value : goal.returns-clause-value
returns-clause-value c = rw c.in-Memory.is (c.new.ensures.value ∙ c.load_in-word.ensures)
