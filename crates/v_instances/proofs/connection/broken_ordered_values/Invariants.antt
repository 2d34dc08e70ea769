use Rattle.std.proofs.Common.{◌≡◌, drop, map}
use Rattle.v_value.specs.Scope.{scope_at}
use Rattle.v_syntax.specs.Source.{optional_tree_of}
use Rattle.v_instances.specs.Outputs.{none}
use Rattle.v_instances.specs.Connected.{ordered_values_from}
use Rattle.v_instances.proofs.connection.broken_ordered_values.Given as goal

abbrev pub invariant-loop-each : goal.invariant-loop-each
invariant-loop-each l = ordered_values_from (scope_at l.names.scope.now) none (map optional_tree_of l.given) ≡ ordered_values_from (scope_at l.names.scope.now) l.all (map optional_tree_of (drop l.each-index l.given))
