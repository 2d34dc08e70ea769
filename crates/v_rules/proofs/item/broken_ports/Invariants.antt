use Rattle.std.proofs.Common.{◌≡◌, drop, map}
use Rattle.v_value.specs.Scope.{scope_at}
use Rattle.v_rules.specs.Judging.{none}
use Rattle.v_syntax.specs.Source.{port_of}
use Rattle.v_rules.specs.Items.{ports_from}
use Rattle.v_rules.proofs.item.broken_ports.Given as goal

abbrev pub invariant-loop-port : goal.invariant-loop-port
invariant-loop-port l = ports_from (scope_at l.names.scope.now) none (map port_of l.ports) ≡ ports_from (scope_at l.names.scope.now) l.all (map port_of (drop l.port-index l.ports))
