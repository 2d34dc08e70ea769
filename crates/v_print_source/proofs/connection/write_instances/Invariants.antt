use Rattle.std.proofs.Common.{false}
use Rattle.v_print.proofs.Loops.{IsLoop}
use Rattle.v_print_source.specs.Lists.{instance_of}
use Rattle.v_print_source.specs.Shown.{printed_instance}
use Rattle.v_print_source.proofs.Wholes.{parts_front}
use Rattle.v_print_source.proofs.connection.write_instances.Given as goal

abbrev pub invariant-loop-instance : goal.invariant-loop-instance
invariant-loop-instance l = IsLoop (parts_front printed_instance instance_of) l.instances l.instance-index l.started l.initial.out l.out (parts_front printed_instance instance_of false l.instances)
