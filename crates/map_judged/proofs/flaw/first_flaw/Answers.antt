use Rattle.std.proofs.Common.{sym, subst}
use Rattle.map_judged.specs.Asked.{asked_list}
use Rattle.map_judged.specs.Flaws.{IsFirstFlaw}
use Rattle.map_judged.proofs.Telling.{flaw_is_first}
use Rattle.map_judged.proofs.flaw.first_flaw.Goals as goal

pub returns : goal.returns
returns c = λ d known named.
    subst (IsFirstFlaw d (asked_list c.args.expressions.now)) (sym c.first_flawed.ensures) (flaw_is_first c.scopes_that_agree_judge_alike.ensures d c.args.expressions.now c.args.known.now known named)
