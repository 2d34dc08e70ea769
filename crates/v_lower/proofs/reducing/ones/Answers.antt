use Rattle.v_lower.proofs.Wholes.{ones_below}
use Rattle.v_lower.proofs.reducing.ones.Goals as goal

pub returns-clause-fits : goal.returns-clause-fits
returns-clause-fits c = ones_below c.args.width c.mask.result c.mask.ensures
