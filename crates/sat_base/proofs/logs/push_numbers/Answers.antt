use Rattle.std.proofs.Common.{◌∙◌, take}
use Rattle.sat_base.proofs.logs.push_numbers.Goals as goal

pub returns-in_err-narrow-clause-grown : goal.returns-in_err-narrow-clause-grown
returns-in_err-narrow-clause-grown c = (take c.loop-number.number-index c.args.numbers.now, c.loop-number.invariant)

pub returns-in_err-push-clause-grown : goal.returns-in_err-push-clause-grown
returns-in_err-push-clause-grown c = (take c.loop-number.number-index c.args.numbers.now, c.in_err-push.ensures.items ∙ c.loop-number.invariant)

pub returns-clause-grown : goal.returns-clause-grown
returns-clause-grown c = (take c.loop-number.number-index c.args.numbers.now, c.loop-number.invariant)
