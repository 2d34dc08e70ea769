use Rattle.reported_traces.proofs.Failing.{traces_fail}
use Rattle.reported_traces.proofs.laws.printed_traces_fail.Goals as goal

pub returns : goal.returns
returns c = traces_fail c.files_are_one_setting.ensures c.settings_are_not_refused.ensures c.printed_traces_replay.ensures
