use Rattle.std.proofs.Common.{◌≡◌, drop, map, option_map}
use Rattle.v_value.specs.Scope.{scope_at}
use Rattle.v_syntax.specs.Source.{optional_tree_of}
use Rattle.v_instances.specs.Outputs.{none}
use Rattle.v_instances.specs.Connected.{ordered_from}
use Rattle.v_instances.proofs.connection.broken_by_order.Given as goal

abbrev pub invariant-loop-place : goal.invariant-loop-place
invariant-loop-place l = ordered_from (scope_at l.names.scope.now) (option_map (λ i. i.now) l.below) 0 none (map optional_tree_of l.entries) ≡ ordered_from (scope_at l.names.scope.now) (option_map (λ i. i.now) l.below) l.place l.all (map optional_tree_of (drop l.place l.entries))
