use Rattle.v_print.proofs.Written.{then, as_front}
use Rattle.v_print_source.proofs.Wholes.{module_whole}
use Rattle.v_print_source.proofs.module.write_module.Goals as goal

pub returns : goal.returns
returns c = as_front (module_whole c.args.colons c.args.unit.now c.deref.result.now c.deref-2.result.now c.deref.ensures.value c.deref-2.ensures.value)
    (then c.in_ok-word.ensures (then c.in_ok-word-2.ensures (then c.in_ok-write_header.ensures (then c.in_ok-write_ports.ensures (then c.in_ok-mark.ensures (then c.in_ok-write_items.ensures (then c.in_ok-begin_line.ensures c.in_ok-word-3.ensures)))))))
