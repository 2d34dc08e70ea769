use Rattle.v_print.proofs.Written.{then}
use Rattle.v_print_source.proofs.connection.close.Goals as goal

pub returns-then-on_lines : goal.returns-then-on_lines
returns-then-on_lines c = then c.in_ok-begin_line.ensures c.in_ok-mark.ensures
