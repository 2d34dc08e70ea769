use Rattle.model_results.proofs.Does.{instruction_does}
use Rattle.model_results.proofs.laws.an_instruction_does_its_result.Goals as goal

pub returns : goal.returns
returns c = instruction_does
