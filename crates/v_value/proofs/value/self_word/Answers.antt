use Rattle.v_value.specs.Evaluation.{width_at, self_at}
use Rattle.v_value.proofs.value.self_word.Goals as goal

pub self_value-requires : goal.self_value-requires
self_value-requires c = record { ready = (c.requires.objects, c.requires.values); narrow = c.requires.narrow }

pub returns-clause-width : goal.returns-clause-width
unfolding width_at
returns-clause-width c = c.self_value.ensures.width

pub returns-clause-value : goal.returns-clause-value
unfolding self_at
returns-clause-value c = c.self_value.ensures.value
