use Rattle.check_cases.proofs.Told.{one_kind}
use Rattle.check_cases.proofs.laws.files_have_one_kind.Goals as goal

pub returns : goal.returns
returns c = one_kind c.one_source.ensures
