use Rattle.verilog_renamed.proofs.AgreedStatements.{agreed_written, agreed_updates}
use Rattle.verilog_renamed.proofs.AgreedMeaning.{targets_are_agreed_on}
use Rattle.verilog_renamed.proofs.agreement.scopes_agree_on_targets.Goals as goal

pub returns : goal.returns
returns c = record { targets = targets_are_agreed_on; writes = agreed_written; updates = agreed_updates }
