use Rattle.v_print.proofs.Written.{then}
use Rattle.v_print.proofs.expression.open_conversion.Goals as goal

pub returns : goal.returns
returns c = then c.in_ok-system.ensures c.in_ok-mark.ensures
