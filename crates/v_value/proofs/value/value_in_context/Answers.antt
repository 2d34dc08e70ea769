use Rattle.v_value.specs.Evaluation.{width_at, value_at}
use Rattle.v_value.proofs.value.value_in_context.Goals as goal

pub value_in-requires : goal.value_in-requires
unfolding width_at
value_in-requires c = record { ready = (c.requires.objects, c.requires.values); narrow = c.requires.narrow; within = c.requires.within; at_most_128 = c.requires.at_most_128 }

pub returns-clause-value : goal.returns-clause-value
unfolding value_at
returns-clause-value c = c.value_in.ensures.value
