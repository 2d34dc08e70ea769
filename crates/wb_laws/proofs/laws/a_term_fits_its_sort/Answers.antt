use Rattle.wb_laws.proofs.ValueSorts.{term_fits}
use Rattle.wb_laws.proofs.laws.a_term_fits_its_sort.Goals as goal

pub returns : goal.returns
returns c = term_fits
