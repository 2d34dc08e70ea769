use Rattle.std.proofs.Common.{◌≡◌, drop, map}
use Rattle.v_syntax.specs.Source.{port_of}
use Rattle.v_scopes.specs.Ports.{is_port_of}
use Rattle.v_named.proofs.ports.is_port.Given as goal

abbrev pub invariant-loop-port : goal.invariant-loop-port
invariant-loop-port l =
    is_port_of l.name (map port_of l.ports) ≡ is_port_of l.name (map port_of (drop l.port-index l.ports))
