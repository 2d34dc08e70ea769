use Rattle.verilog_renamed.proofs.AgreedBits.{agreed_items_read, agreed_full}
use Rattle.verilog_renamed.proofs.AgreedMeaning.{statements_are_agreed_on}
use Rattle.verilog_renamed.proofs.agreement.scopes_agree_on_statements.Goals as goal

pub returns : goal.returns
returns c = record { statements = statements_are_agreed_on; items = agreed_items_read; full = agreed_full }
