use Rattle.map_uses.proofs.Whole.{all_of_texts}
use Rattle.map_uses.proofs.laws.read_expressions_are_of_texts.Goals as goal

pub returns : goal.returns
returns c = all_of_texts
