use Rattle.std.proofs.Common.{true, false, refl}
use Rattle.v_print.specs.Spelled.{parted}
use Rattle.v_print.proofs.Loops.{loop_begins, loop_goes_on, loop_ends}
use Rattle.v_print.proofs.Written.{then}
use Rattle.v_syntax.specs.Source.{port_of}
use Rattle.v_print_source.specs.Shown.{printed_port}
use Rattle.v_print_source.proofs.Wholes.{parts_front}
use Rattle.v_print_source.proofs.module.write_all_ports.Goals as goal

pub loop-port-init : goal.loop-port-init
loop-port-init c = loop_begins (parts_front printed_port port_of) c.args.ports.now false c.args.out.now

pub loop-port-preserved : goal.loop-port-preserved
loop-port-preserved c =
    loop_goes_on (parts_front printed_port port_of) c.args.ports.now c.loop-port.port-index c.port-item.result c.loop-port.started true (λ r. parted c.loop-port.started (printed_port (port_of c.port-item.result) r)) c.loop-port-test.true
    c.port-item.is (λ ys r. refl) c.loop-port.invariant (then c.in_ok-separate.ensures c.in_ok-write_port.ensures)

pub returns : goal.returns
returns c = loop_ends (parts_front printed_port port_of) c.args.ports.now c.loop-port.port-index c.loop-port.started c.loop-port-test.false (λ r. refl) c.loop-port.invariant
