use Rattle.std.proofs.Common.{◌≡◌, drop, map}
use Rattle.v_value.specs.Scope.{scope_at}
use Rattle.v_syntax.specs.Source.{optional_tree_of}
use Rattle.v_instances.specs.Outputs.{none}
use Rattle.v_instances.specs.Connected.{named_values_from}
use Rattle.v_instances.proofs.connection.broken_named_values.Given as goal

abbrev pub invariant-loop-each : goal.invariant-loop-each
invariant-loop-each l = named_values_from (scope_at l.names.scope.now) none (map (λ c. (c.name.now, optional_tree_of c.value)) l.given) ≡ named_values_from (scope_at l.names.scope.now) l.all (map (λ c. (c.name.now, optional_tree_of c.value)) (drop l.each-index l.given))
