use Rattle.designs_of_texts.proofs.OfText.{of-text}
use Rattle.designs_of_texts.proofs.laws.trees_are_of_texts.Goals as goal

pub returns : goal.returns
returns c = of-text
