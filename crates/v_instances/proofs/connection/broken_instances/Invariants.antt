use Rattle.std.proofs.Common.{◌≡◌, drop, map, option_map}
use Rattle.v_value.specs.Scope.{scope_at}
use Rattle.v_syntax.specs.Source.{connections_of}
use Rattle.v_instances.specs.Outputs.{none}
use Rattle.v_instances.specs.Connected.{instances_from}
use Rattle.v_instances.proofs.connection.broken_instances.Given as goal

abbrev pub invariant-loop-instance : goal.invariant-loop-instance
invariant-loop-instance l = instances_from (scope_at l.names.scope.now) (option_map (λ i. i.now) l.below) none (map (λ i. (i.name.now, connections_of i.connections)) l.instances) ≡ instances_from (scope_at l.names.scope.now) (option_map (λ i. i.now) l.below) l.all (map (λ i. (i.name.now, connections_of i.connections)) (drop l.instance-index l.instances))
