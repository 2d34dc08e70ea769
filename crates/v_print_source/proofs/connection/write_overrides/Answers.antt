use Rattle.v_syntax.specs.Source.{connections_of}
use Rattle.v_print.proofs.Written.{then, as_front, nothing_written}
use Rattle.v_print_source.proofs.Wholes.{overrides_kept, overrides_left_out}
use Rattle.v_print_source.proofs.connection.write_overrides.Goals as goal

pub returns-then-none : goal.returns-then-none
returns-then-none c = as_front (overrides_left_out (connections_of c.args.connections.now) c.are_left_out-none.result c.are_left_out-none.ensures c.if-none.true) (nothing_written c.args.out.now)

pub returns : goal.returns
returns c = as_front (overrides_kept (connections_of c.args.connections.now) c.are_left_out-none.result c.are_left_out-none.ensures c.if-none.false)
    (then c.in_ok-blank.ensures.reads (then c.in_ok-mark.ensures (then c.in_ok-mark-2.ensures c.in_ok-write_connections.ensures)))
