use Rattle.std.proofs.Common.{ap, ◌∙◌}
use Rattle.check_limits.specs.View.{as_limit}
use Rattle.wb_top.proofs.Judged.{over_limit, within_limits}
use Rattle.wb_top.proofs.answer.checked_case.Goals as goal

pub returns-in_ok-text-in-Some : goal.returns-in_ok-text-in-Some
returns-in_ok-text-in-Some c =
    over_limit c.args.model.now c.args.mapped c.args.budget (as_limit c.in-Some.limit) _ _ (rw c.in-Some.is at c.limit_of.ensures) c.plain.ensures.status
    (c.plain.ensures.text ∙ c.in_ok-text-in-Some.ensures) (ap (λ t. t.spent) c.plain.ensures.nothing)

pub returns-in_ok-outcome-in-None : goal.returns-in_ok-outcome-in-None
returns-in_ok-outcome-in-None c =
    within_limits c.args.model.now c.args.mapped c.args.budget _ _ (rw c.in-None.is at c.limit_of.ensures) c.in_ok-outcome-in-None.ensures
