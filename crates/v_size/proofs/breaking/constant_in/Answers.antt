use Rattle.v_size.specs.Judged.{constant_broken_at, constant_number_at}
use Rattle.v_size.proofs.breaking.constant_in.Goals as goal

pub returns-clause-broken : goal.returns-clause-broken
unfolding constant_broken_at
returns-clause-broken c = c.judged_constant.ensures.broken

pub returns-clause-number : goal.returns-clause-number
unfolding constant_number_at
returns-clause-number c = c.judged_constant.ensures.number
