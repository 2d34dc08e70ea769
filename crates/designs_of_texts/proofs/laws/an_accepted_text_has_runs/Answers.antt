use Rattle.refinement.specs.Map.{design_of}
use Rattle.verilog_exists.proofs.Runs.{run_exists}
use Rattle.designs_of_texts.proofs.OfText.{of-text}
use Rattle.designs_of_texts.proofs.laws.an_accepted_text_has_runs.Goals as goal

pub returns : goal.returns
returns c = λ files s registers inputs t accepted r i. run_exists s registers inputs accepted (of-text files (design_of s) t) r i
