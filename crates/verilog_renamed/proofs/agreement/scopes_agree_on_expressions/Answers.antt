use Rattle.verilog_renamed.proofs.AgreedMeaning.{expressions_are_agreed_on, parts_are_agreed_on, each_select_is_agreed_on, selects_are_agreed_on}
use Rattle.verilog_renamed.proofs.agreement.scopes_agree_on_expressions.Goals as goal

pub returns : goal.returns
returns c =
    record { expressions = expressions_are_agreed_on; parts = parts_are_agreed_on; select = each_select_is_agreed_on; selects = selects_are_agreed_on }
