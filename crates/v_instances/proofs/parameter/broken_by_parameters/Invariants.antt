use Rattle.std.proofs.Common.{◌≡◌, drop, map}
use Rattle.v_value.specs.Scope.{scope_at}
use Rattle.v_syntax.specs.Source.{item_of}
use Rattle.v_instances.specs.Outputs.{none}
use Rattle.v_instances.specs.Parameters.{parameter_items_from}
use Rattle.v_instances.proofs.parameter.broken_by_parameters.Given as goal

abbrev pub invariant-loop-item : goal.invariant-loop-item
invariant-loop-item l = parameter_items_from (scope_at l.names.scope.now) none (map item_of l.items) ≡ parameter_items_from (scope_at l.names.scope.now) l.all (map item_of (drop l.item-index l.items))
