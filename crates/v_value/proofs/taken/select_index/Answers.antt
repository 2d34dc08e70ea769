use Rattle.v_value.specs.Evaluation.{index_at}
use Rattle.v_value.proofs.taken.select_index.Goals as goal

pub index_of-requires : goal.index_of-requires
index_of-requires c = record { ready = (c.requires.objects, c.requires.values); narrow = c.requires.narrow }

pub returns : goal.returns
unfolding index_at
returns c = c.index_of.ensures
