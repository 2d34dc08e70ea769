use Rattle.verilog_constants.proofs.Expressions.{expressions_agree, numbers_agree}
use Rattle.verilog_constants.proofs.Modules.{modules_agree}
use Rattle.verilog_constants.proofs.laws.digits_and_constants_rest_on_constants.Goals as goal

pub returns : goal.returns
returns c = record { expressions = expressions_agree; numbers = numbers_agree; modules = modules_agree }
