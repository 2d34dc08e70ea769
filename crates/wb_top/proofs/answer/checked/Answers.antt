use Rattle.wb_top.proofs.Judged.{case_answered}
use Rattle.wb_top.proofs.answer.checked.Goals as goal

pub returns-in_ok-outcome-in-Setting : goal.returns-in_ok-outcome-in-Setting
returns-in_ok-outcome-in-Setting c =
    case_answered _ _ _ _ _ _ _ _ (rw c.in-Setting.is at c.in_ok-model.ensures) c.in_ok-outcome-in-Setting.ensures
