use Rattle.wb_terms.proofs.EnvironmentLemmas.{memory_word}
use Rattle.wb_terms.proofs.evaluation.word_of_memory.Goals as goal

pub new-requires-clause-fits : goal.new-requires-clause-fits
new-requires-clause-fits c =
    let arm = c.in-Words-Memory in
    let sorted = rw (arm.is-0, arm.is-1) at c.requires.sort in
    let address = rw arm.is-1 at c.requires.address in
    memory_word arm.field-0-1 arm.width arm.words.items _ _ sorted address c.index.ensures
