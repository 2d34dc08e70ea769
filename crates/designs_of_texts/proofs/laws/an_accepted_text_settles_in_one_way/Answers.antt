use Rattle.verilog_exists.proofs.Exists.{one_settled}
use Rattle.designs_of_texts.proofs.OfText.{of-text}
use Rattle.designs_of_texts.proofs.laws.an_accepted_text_settles_in_one_way.Goals as goal

pub returns : goal.returns
returns c = λ files d registers inputs t accepted fit. one_settled d registers inputs accepted (of-text files d t) fit
