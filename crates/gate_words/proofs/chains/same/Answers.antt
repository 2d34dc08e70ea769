use Rattle.gate_words.proofs.chains.same.Goals as goal

pub and-requires-clause-y : goal.and-requires-clause-y
and-requires-clause-y c = c.negated-equal.ensures.known _ c.in_ok-unequal.ensures.bit.known
