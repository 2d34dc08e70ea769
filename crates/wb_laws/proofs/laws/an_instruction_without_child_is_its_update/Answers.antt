use Rattle.wb_laws.proofs.UpdateAlone.{update_alone}
use Rattle.wb_laws.proofs.laws.an_instruction_without_child_is_its_update.Goals as goal

pub returns : goal.returns
returns c = update_alone
