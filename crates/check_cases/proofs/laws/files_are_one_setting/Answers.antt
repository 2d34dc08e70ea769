use Rattle.check_cases.proofs.Settings.{one_setting}
use Rattle.check_cases.proofs.laws.files_are_one_setting.Goals as goal

pub returns : goal.returns
returns c = one_setting c.one_source.ensures c.a_text_is_read_as_one_expression.ensures
