use Rattle.std.proofs.Common.{◌≡◌, drop, map}
use Rattle.v_syntax.specs.Source.{port_of}
use Rattle.v_scopes.specs.Ports.{direction_among}
use Rattle.v_named.proofs.ports.direction_among.Given as goal

abbrev pub invariant-loop-port : goal.invariant-loop-port
invariant-loop-port l =
    direction_among l.name (map port_of l.ports) ≡ direction_among l.name (map port_of (drop l.port-index l.ports))
