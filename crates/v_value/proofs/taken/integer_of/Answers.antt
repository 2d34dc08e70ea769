use Rattle.v_value.specs.Evaluation.{integer_self_at}
use Rattle.v_value.proofs.taken.integer_of.Goals as goal

pub integer_by_itself-requires : goal.integer_by_itself-requires
integer_by_itself-requires c = record { ready = (c.requires.objects, c.requires.values); narrow = c.requires.narrow }

pub returns-clause-value : goal.returns-clause-value
unfolding integer_self_at
returns-clause-value c = c.integer_by_itself.ensures.value
