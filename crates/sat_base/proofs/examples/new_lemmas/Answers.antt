use Rattle.sat_base.proofs.Worked.{learnt_unit, holds_earlier, empty}
use Rattle.sat_base.proofs.examples.new_lemmas.Goals as goal

pub returns-clause-learnt_unit : goal.returns-clause-learnt_unit
returns-clause-learnt_unit c = learnt_unit

pub returns-clause-holds_earlier : goal.returns-clause-holds_earlier
returns-clause-holds_earlier c = holds_earlier

pub returns-clause-empty : goal.returns-clause-empty
returns-clause-empty c = empty
