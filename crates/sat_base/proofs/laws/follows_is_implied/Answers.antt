use Rattle.sat_base.proofs.Implied.{follows_implied}
use Rattle.sat_base.proofs.laws.follows_is_implied.Goals as goal

pub returns : goal.returns
returns c = follows_implied
