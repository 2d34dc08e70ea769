use Rattle.v_print.proofs.Written.{then, as_front, nothing_written}
use Rattle.v_print_source.proofs.Wholes.{header_kept, header_left_out}
use Rattle.v_print_source.proofs.module.write_header.Goals as goal

pub returns-then-none : goal.returns-then-none
returns-then-none c = as_front (header_left_out c.args.parameters.now c.is_nil-none.result c.is_nil-none.ensures c.if-none.true) (nothing_written c.args.out.now)

pub returns : goal.returns
returns c = as_front (header_kept c.args.parameters.now c.is_nil-none.result c.is_nil-none.ensures c.if-none.false)
    (then c.in_ok-blank.ensures.reads (then c.in_ok-mark.ensures (then c.in_ok-mark-2.ensures (then c.in_ok-write_parameters.ensures (then c.in_ok-begin_line.ensures c.in_ok-mark-3.ensures)))))
