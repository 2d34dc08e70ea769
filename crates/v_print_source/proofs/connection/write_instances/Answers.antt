use Rattle.std.proofs.Common.{true, false, refl}
use Rattle.v_print.specs.Spelled.{parted}
use Rattle.v_print.proofs.Loops.{loop_begins, loop_goes_on, loop_ends}
use Rattle.v_print.proofs.Written.{then}
use Rattle.v_print_source.specs.Lists.{instance_of}
use Rattle.v_print_source.specs.Shown.{printed_instance}
use Rattle.v_print_source.proofs.Wholes.{parts_front}
use Rattle.v_print_source.proofs.connection.write_instances.Goals as goal

pub loop-instance-init : goal.loop-instance-init
loop-instance-init c = loop_begins (parts_front printed_instance instance_of) c.args.instances.now false c.args.out.now

pub loop-instance-preserved : goal.loop-instance-preserved
loop-instance-preserved c =
    loop_goes_on (parts_front printed_instance instance_of) c.args.instances.now c.loop-instance.instance-index c.instance-item.result c.loop-instance.started true (λ r. parted c.loop-instance.started (printed_instance (instance_of c.instance-item.result) r)) c.loop-instance-test.true
    c.instance-item.is (λ ys r. refl) c.loop-instance.invariant (then c.in_ok-comma_if.ensures c.in_ok-write_instance.ensures)

pub returns : goal.returns
returns c = loop_ends (parts_front printed_instance instance_of) c.args.instances.now c.loop-instance.instance-index c.loop-instance.started c.loop-instance-test.false (λ r. refl) c.loop-instance.invariant
