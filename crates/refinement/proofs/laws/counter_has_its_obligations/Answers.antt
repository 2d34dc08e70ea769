use Rattle.std.proofs.Common.{refl}
use Rattle.std.specs.Fmt.{digits}
use Rattle.refinement.proofs.laws.counter_has_its_obligations.Goals as goal

pub returns : goal.returns
unfolding digits
returns c = refl
