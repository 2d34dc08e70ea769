use Rattle.model_places.proofs.Fitting.{noted_misfit}
use Rattle.model_places.proofs.laws.a_misfit_stands_where_no_model_is_written.Goals as goal

pub returns : goal.returns
returns c = noted_misfit
