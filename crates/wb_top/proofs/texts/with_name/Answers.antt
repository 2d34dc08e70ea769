use Rattle.wb_top.proofs.Lines.{some_named}
use Rattle.wb_top.proofs.texts.with_name.Goals as goal

pub returns-in-Some : goal.returns-in-Some
returns-in-Some c = some_named _ _ _ (rw c.in-Some.is at c.named.ensures)
