use Rattle.std.proofs.Common.{true, false, refl}
use Rattle.v_print.specs.Spelled.{parted}
use Rattle.v_print.proofs.Loops.{loop_begins, loop_goes_on, loop_ends}
use Rattle.v_print.proofs.Written.{then}
use Rattle.v_print_source.specs.Lists.{continuous_of}
use Rattle.v_print_source.specs.Shown.{printed_continuous}
use Rattle.v_print_source.proofs.Wholes.{parts_front}
use Rattle.v_print_source.proofs.item.write_all_continuous.Goals as goal

pub loop-assignment-init : goal.loop-assignment-init
loop-assignment-init c = loop_begins (parts_front printed_continuous continuous_of) c.args.assignments.now false c.args.out.now

pub loop-assignment-preserved : goal.loop-assignment-preserved
loop-assignment-preserved c =
    loop_goes_on (parts_front printed_continuous continuous_of) c.args.assignments.now c.loop-assignment.assignment-index c.assignment-item.result c.loop-assignment.started true (λ r. parted c.loop-assignment.started (printed_continuous (continuous_of c.assignment-item.result) r)) c.loop-assignment-test.true
    c.assignment-item.is (λ ys r. refl) c.loop-assignment.invariant (then c.in_ok-comma_if.ensures c.in_ok-write_continuous.ensures)

pub returns : goal.returns
returns c = loop_ends (parts_front printed_continuous continuous_of) c.args.assignments.now c.loop-assignment.assignment-index c.loop-assignment.started c.loop-assignment-test.false (λ r. refl) c.loop-assignment.invariant
