use Rattle.check_cases.proofs.Told.{settings_unrefused}
use Rattle.check_cases.proofs.laws.settings_are_not_refused.Goals as goal

pub returns : goal.returns
returns c = settings_unrefused c.one_source.ensures
