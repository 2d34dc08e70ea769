use Rattle.std.proofs.Common.{◌≡◌, drop, map}
use Rattle.v_syntax.specs.Source.{port_of}
use Rattle.v_value.specs.Scope.{scope_at}
use Rattle.v_scopes.specs.Ports.{wide_port}
use Rattle.v_named.proofs.wide.has_wide_port.Given as goal

abbrev pub invariant-loop-port : goal.invariant-loop-port
invariant-loop-port l =
    wide_port (scope_at l.constants.scope.now) l.name (map port_of l.ports) ≡ wide_port (scope_at l.constants.scope.now) l.name (map port_of (drop l.port-index l.ports))
