use Rattle.std.proofs.Common.{sym, subst}
use Rattle.wb_top.specs.Texts.{IsRefusalBy}
use Rattle.wb_top.specs.SimulatedBoth.{files_refused, is_watched}
use Rattle.wb_top.proofs.Judged.{setting_by}
use Rattle.wb_top.proofs.both.simulated_both.Goals as goal

pub returns-in_ok-outcome-in-Setting-clause-told : goal.returns-in_ok-outcome-in-Setting-clause-told
returns-in_ok-outcome-in-Setting-clause-told c =
    let case = rw c.in-Setting.is at c.in_ok-model.ensures in
    is_watched case.setting case.is_setting (c.in_ok-outcome-in-Setting.ensures.told case.setting (setting_by _ _ _ _ _ case))

pub returns-in-Refused-clause-told : goal.returns-in-Refused-clause-told
returns-in-Refused-clause-told c =
    let case = rw c.in-Refused.is at c.in_ok-model.ensures in
    files_refused case.0 case.1 c.plain.ensures.status (subst (IsRefusalBy case.0) (sym c.plain.ensures.text) case.2)
