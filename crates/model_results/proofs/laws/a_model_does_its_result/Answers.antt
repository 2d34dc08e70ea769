use Rattle.model_results.proofs.Does.{model_does}
use Rattle.model_results.proofs.laws.a_model_does_its_result.Goals as goal

pub returns : goal.returns
returns c = model_does
