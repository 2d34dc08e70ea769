use Rattle.std.proofs.Common.{◌≡◌, drop, map}
use Rattle.v_syntax.specs.Source.{port_of}
use Rattle.v_hier.specs.Reading.{knows, ports_known}
use Rattle.v_hier.proofs.item.are_declared_known.Given as goal

abbrev pub invariant-loop-port : goal.invariant-loop-port
invariant-loop-port l = ports_known (knows l.names) (map port_of l.ports) ≡ ports_known (knows l.names) (map port_of (drop l.port-index l.ports))
