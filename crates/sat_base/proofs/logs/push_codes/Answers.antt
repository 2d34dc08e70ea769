use Rattle.std.proofs.Common.{◌∙◌, map, take}
use Rattle.sat_base.specs.Codes.{code_of}
use Rattle.sat_base.proofs.logs.push_codes.Goals as goal

pub returns-in_err-code-clause-grown : goal.returns-in_err-code-clause-grown
returns-in_err-code-clause-grown c = (map code_of (take c.loop-lit.lit-index c.args.lits.now), c.loop-lit.invariant)

pub returns-in_err-push-clause-grown : goal.returns-in_err-push-clause-grown
returns-in_err-push-clause-grown c = (map code_of (take c.loop-lit.lit-index c.args.lits.now), c.in_err-push.ensures.items ∙ c.loop-lit.invariant)

pub returns-clause-grown : goal.returns-clause-grown
returns-clause-grown c = (map code_of (take c.loop-lit.lit-index c.args.lits.now), c.loop-lit.invariant)
