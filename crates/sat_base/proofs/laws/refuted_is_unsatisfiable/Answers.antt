use Rattle.sat_base.proofs.Implied.{refuted_unsatisfiable}
use Rattle.sat_base.proofs.laws.refuted_is_unsatisfiable.Goals as goal

pub returns : goal.returns
returns c = refuted_unsatisfiable
