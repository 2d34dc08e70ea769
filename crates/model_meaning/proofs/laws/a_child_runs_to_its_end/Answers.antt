use Rattle.model_meaning.proofs.WorkedChild.{product_of_three_and_five}
use Rattle.model_meaning.proofs.laws.a_child_runs_to_its_end.Goals as goal

pub returns : goal.returns
returns c = product_of_three_and_five
