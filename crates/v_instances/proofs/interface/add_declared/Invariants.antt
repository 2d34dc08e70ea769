use Rattle.std.proofs.Common.{◌≡◌, ◌++◌, drop, map}
use Rattle.verilog_meaning.specs.Settled.{declared_ports, names_of}
use Rattle.v_syntax.specs.Source.{port_of}
use Rattle.v_instances.specs.Texts.{texts}
use Rattle.v_instances.proofs.interface.add_declared.Given as goal

abbrev pub invariant-loop-port : goal.invariant-loop-port
invariant-loop-port l = texts l.initial.order.items ++ names_of (declared_ports (map port_of l.ports)) ≡ texts l.order.items ++ names_of (declared_ports (map port_of (drop l.port-index l.ports)))
