use Rattle.gate_words.proofs.chains.difference.Goals as goal

pub sum-requires-clause-y : goal.sum-requires-clause-y
sum-requires-clause-y c = c.negated-other.ensures.known _ c.requires.y
