use Rattle.std.proofs.Common.{◌≡◌, drop, map}
use Rattle.v_value.specs.Scope.{scope_at}
use Rattle.v_syntax.specs.Source.{item_of}
use Rattle.v_instances.specs.Interface.{interface_in}
use Rattle.v_instances.specs.Outputs.{none}
use Rattle.v_instances.specs.Connected.{instance_items_from}
use Rattle.v_instances.proofs.connection.broken_by_instances.Given as goal

abbrev pub invariant-loop-item : goal.invariant-loop-item
invariant-loop-item l = instance_items_from (scope_at l.names.scope.now) (interface_in l.interfaces) none (map item_of l.items) ≡ instance_items_from (scope_at l.names.scope.now) (interface_in l.interfaces) l.all (map item_of (drop l.item-index l.items))
