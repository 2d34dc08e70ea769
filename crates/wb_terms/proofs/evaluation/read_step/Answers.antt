use Rattle.wb_terms.proofs.EnvironmentLemmas.{name_has_value, name_has_sort, leaf}
use Rattle.wb_terms.proofs.evaluation.read_step.Goals as goal

pub index-requires : goal.index-requires
index-requires c = name_has_value c.args.terms.now c.args.env.now c.in-Name.name.0 c.requires.fits (rw c.in-Name.is at c.node.ensures.over.names).0

pub word_of_memory-requires-clause-sort : goal.word_of_memory-requires-clause-sort
word_of_memory-requires-clause-sort c =
    let declared = rw c.in-Name.is at c.node.ensures.over.names in
    name_has_sort c.args.terms.now c.args.env.now c.in-Name.name.0 _ _ c.requires.fits declared.0 c.index.ensures c.name_sort.ensures.sort

pub returns-in-Name : goal.returns-in-Name
returns-in-Name c =
    let declared = rw c.in-Name.is at c.node.ensures.over.names in
    let l = leaf c.args.terms.now c.args.env.now c.args.id.0 _ c.in-Name.name _ _ c.node.ensures.tree c.in-Name.is c.name_sort.ensures.distinct c.requires.fits declared.0 c.index.ensures c.name_sort.ensures.sort c.name_sort.ensures.in_range in
    rw (l.sort, l.value) (c.word_of_memory.ensures.width, c.word_of_memory.ensures.value)
