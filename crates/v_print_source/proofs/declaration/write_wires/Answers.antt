use Rattle.std.proofs.Common.{true, false, refl}
use Rattle.v_print.specs.Spelled.{parted}
use Rattle.v_print.proofs.Loops.{loop_begins, loop_goes_on, loop_ends}
use Rattle.v_print.proofs.Written.{then}
use Rattle.v_print_source.specs.Lists.{wire_of}
use Rattle.v_print_source.specs.Shown.{printed_wire}
use Rattle.v_print_source.proofs.Wholes.{parts_front}
use Rattle.v_print_source.proofs.declaration.write_wires.Goals as goal

pub loop-wire-init : goal.loop-wire-init
loop-wire-init c = loop_begins (parts_front printed_wire wire_of) c.args.wires.now false c.args.out.now

pub loop-wire-preserved : goal.loop-wire-preserved
loop-wire-preserved c =
    loop_goes_on (parts_front printed_wire wire_of) c.args.wires.now c.loop-wire.wire-index c.wire-item.result c.loop-wire.started true (λ r. parted c.loop-wire.started (printed_wire (wire_of c.wire-item.result) r)) c.loop-wire-test.true
    c.wire-item.is (λ ys r. refl) c.loop-wire.invariant (then c.in_ok-comma_if.ensures c.in_ok-write_wire.ensures)

pub returns : goal.returns
returns c = loop_ends (parts_front printed_wire wire_of) c.args.wires.now c.loop-wire.wire-index c.loop-wire.started c.loop-wire-test.false (λ r. refl) c.loop-wire.invariant
