use Rattle.std.proofs.Common.{◌≡◌, drop, map, option_map}
use Rattle.v_value.specs.Scope.{scope_at}
use Rattle.v_syntax.specs.Source.{optional_tree_of}
use Rattle.v_instances.specs.Outputs.{none}
use Rattle.v_instances.specs.Connected.{named_from}
use Rattle.v_instances.proofs.connection.broken_by_name.Given as goal

abbrev pub invariant-loop-connection : goal.invariant-loop-connection
invariant-loop-connection l = named_from (scope_at l.names.scope.now) (option_map (λ i. i.now) l.below) none (map (λ c. (c.name.now, optional_tree_of c.value)) l.connections) ≡ named_from (scope_at l.names.scope.now) (option_map (λ i. i.now) l.below) l.all (map (λ c. (c.name.now, optional_tree_of c.value)) (drop l.connection-index l.connections))
