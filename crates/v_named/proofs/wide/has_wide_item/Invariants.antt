use Rattle.std.proofs.Common.{Bool, drop}
use Rattle.wb_values.specs.Value.{Name}
use Rattle.v_value.specs.Scope.{objects_of, scope_at}
use Rattle.v_named.specs.Before.{IsBefore}
use Rattle.v_named.proofs.Breadth.{IsLooking, items_of}
use Rattle.v_named.proofs.wide.has_wide_item.Given as goal

abbrev pub invariant-loop-item : goal.invariant-loop-item
invariant-loop-item l =
    (b : Name → Bool) → IsBefore (objects_of l.initial.known.scope.declarations.items) (scope_at l.constants.scope.now) b
    → IsLooking (objects_of l.known.scope.declarations.items) (scope_at l.constants.scope.now) l.name (items_of (drop l.item-index l.items)) (items_of l.items) b
