use Rattle.v_print.proofs.Written.{then}
use Rattle.v_print_source.proofs.item.write_always.Goals as goal

pub returns : goal.returns
returns c = then c.in_ok-word.ensures (then c.in_ok-blank.ensures.reads (then c.in_ok-mark.ensures (then c.in_ok-write_control.ensures (then c.in_ok-gap.ensures c.in_ok-write_statement.ensures))))
