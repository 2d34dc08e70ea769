use Rattle.wb_top.proofs.Decides.{proved_hold, failed_fails}
use Rattle.wb_top.proofs.laws.a_report_decides.Goals as goal

pub returns : goal.returns
returns c = record { all_proved = proved_hold; some_failed = failed_fails }
