use Rattle.v_print.proofs.Written.{then}
use Rattle.v_print_source.proofs.layout.separate.Goals as goal

pub returns : goal.returns
returns c = then c.in_ok-mark_if.ensures c.in_ok-begin_line.ensures
