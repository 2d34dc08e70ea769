use Rattle.wb_laws.proofs.Settled.{settled_value_fits}
use Rattle.wb_laws.proofs.laws.a_settled_value_fits_its_width.Goals as goal

pub returns : goal.returns
returns c = settled_value_fits
