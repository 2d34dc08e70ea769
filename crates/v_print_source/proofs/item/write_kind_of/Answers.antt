use Rattle.v_print.proofs.Written.{then}
use Rattle.v_print_source.proofs.item.write_kind_of.Goals as goal

pub returns : goal.returns
returns c = then c.in_ok-word.ensures (then c.in_ok-write_signed.ensures (then c.in_ok-write_range.ensures c.in_ok-blank.ensures.reads))
