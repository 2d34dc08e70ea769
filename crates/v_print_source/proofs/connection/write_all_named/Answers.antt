use Rattle.std.proofs.Common.{true, false, refl}
use Rattle.v_print.specs.Spelled.{parted}
use Rattle.v_print.proofs.Loops.{loop_begins, loop_goes_on, loop_ends}
use Rattle.v_print.proofs.Written.{then}
use Rattle.v_print_source.specs.Lists.{named_of}
use Rattle.v_print_source.specs.Shown.{printed_named}
use Rattle.v_print_source.proofs.Wholes.{parts_front}
use Rattle.v_print_source.proofs.connection.write_all_named.Goals as goal

pub loop-connection-init : goal.loop-connection-init
loop-connection-init c = loop_begins (parts_front printed_named named_of) c.args.connections.now false c.args.out.now

pub loop-connection-preserved : goal.loop-connection-preserved
loop-connection-preserved c =
    loop_goes_on (parts_front printed_named named_of) c.args.connections.now c.loop-connection.connection-index c.connection-item.result c.loop-connection.started true (λ r. parted c.loop-connection.started (printed_named (named_of c.connection-item.result) r)) c.loop-connection-test.true
    c.connection-item.is (λ ys r. refl) c.loop-connection.invariant (then c.in_ok-separate.ensures c.in_ok-write_named.ensures)

pub returns : goal.returns
returns c = loop_ends (parts_front printed_named named_of) c.args.connections.now c.loop-connection.connection-index c.loop-connection.started c.loop-connection-test.false (λ r. refl) c.loop-connection.invariant
