use Rattle.v_print.proofs.Written.{then, as_front}
use Rattle.v_print_source.proofs.Wholes.{port_whole}
use Rattle.v_print_source.proofs.declaration.write_port.Goals as goal

pub returns : goal.returns
returns c = as_front (port_whole c.args.port.now c.direction_word.result.now c.deref.result.now c.direction_word.ensures c.deref.ensures.value)
    (then c.in_ok-word.ensures (then c.in_ok-write_kind.ensures (then c.in_ok-write_signed.ensures (then c.in_ok-write_range.ensures (then c.in_ok-blank.ensures.reads c.in_ok-write_names.ensures)))))
