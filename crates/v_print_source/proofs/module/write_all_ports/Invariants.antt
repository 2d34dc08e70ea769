use Rattle.std.proofs.Common.{false}
use Rattle.v_print.proofs.Loops.{IsLoop}
use Rattle.v_syntax.specs.Source.{port_of}
use Rattle.v_print_source.specs.Shown.{printed_port}
use Rattle.v_print_source.proofs.Wholes.{parts_front}
use Rattle.v_print_source.proofs.module.write_all_ports.Given as goal

abbrev pub invariant-loop-port : goal.invariant-loop-port
invariant-loop-port l = IsLoop (parts_front printed_port port_of) l.ports l.port-index l.started l.initial.out l.out (parts_front printed_port port_of false l.ports)
