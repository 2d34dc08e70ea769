use Rattle.std.proofs.Common.{◌∙◌, ap, arith, get_or}
use Rattle.verilog_text.specs.Spelling.{based_number}
use Rattle.v_expr.proofs.Digits.{behind_first}
use Rattle.v_expr.proofs.number.based_number.Goals as goal

pub returns-in-len1-up : goal.returns-in-len1-up
returns-in-len1-up c = c.behind_quote.ensures (get_or c.args.text.now 0 0) ∙ ap (based_number c.args.size) (behind_first c.args.text.now (omega arith))
