use Rattle.std.proofs.Common.{◌∙◌}
use Rattle.sat_base.proofs.logs.Log.lits.Goals as goal

pub returns : goal.returns
returns c = λ s at. c.from_vec.ensures ∙ c.in_ok-lits.ensures ∙ c.codes.ensures s at
