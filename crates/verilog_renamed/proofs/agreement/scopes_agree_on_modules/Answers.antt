use Rattle.verilog_renamed.proofs.AgreedMeaning.{assignments_are_agreed_on, blocks_are_agreed_on, given_bits_are_agreed_on}
use Rattle.verilog_renamed.proofs.agreement.scopes_agree_on_modules.Goals as goal

pub returns : goal.returns
returns c = record { assignments = assignments_are_agreed_on; blocks = blocks_are_agreed_on; given = given_bits_are_agreed_on }
