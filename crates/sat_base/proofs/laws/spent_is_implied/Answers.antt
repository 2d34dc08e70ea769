use Rattle.std.proofs.Common.{arith}
use Rattle.std.proofs.lemmas.Option.{slice_get-get_or}
use Rattle.sat_base.proofs.Implied.{step_true}
use Rattle.sat_base.proofs.laws.spent_is_implied.Goals as goal

pub returns : goal.returns
returns c = λ budget f log spent a holds k d below.
    step_true f log a holds k (λ j h. spent.follow j (omega arith)) _ (slice_get-get_or log k d below)
