use Rattle.std.proofs.Common.{sym, subst}
use Rattle.map_judged.specs.Asked.{asked_list}
use Rattle.map_judged.specs.Flaws.{IsFirstMismatch}
use Rattle.map_judged.proofs.Telling.{mismatch_is_first}
use Rattle.map_judged.proofs.width.first_mismatch.Goals as goal

pub returns : goal.returns
returns c = λ d known named.
    subst (IsFirstMismatch d (asked_list c.args.expressions.now)) (sym c.first_differing.ensures) (mismatch_is_first c.scopes_that_agree_judge_alike.ensures d c.args.expressions.now c.args.known.now known named)
