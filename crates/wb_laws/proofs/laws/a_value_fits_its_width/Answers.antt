use Rattle.wb_laws.proofs.Widths.{value_fits, context_fits}
use Rattle.wb_laws.proofs.laws.a_value_fits_its_width.Goals as goal

pub returns : goal.returns
returns c = record { alone = value_fits; in_context = context_fits }
