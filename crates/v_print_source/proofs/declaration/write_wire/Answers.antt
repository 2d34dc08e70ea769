use Rattle.v_print.proofs.Written.{then, as_front}
use Rattle.v_print_source.proofs.Wholes.{wire_whole}
use Rattle.v_print_source.proofs.declaration.write_wire.Goals as goal

pub returns : goal.returns
returns c = as_front (wire_whole c.args.wire.now) (then c.in_ok-word.ensures c.in_ok-write_value.ensures)
