use Rattle.std.proofs.Common.{◌≡◌, drop, map}
use Rattle.v_syntax.specs.Source.{item_of}
use Rattle.v_value.specs.Scope.{scope_at}
use Rattle.v_scopes.specs.Ports.{wide_item}
use Rattle.v_scopes.proofs.clock.has_wide_item.Given as goal

abbrev pub invariant-loop-item : goal.invariant-loop-item
invariant-loop-item l =
    wide_item (scope_at l.constants.scope.now) l.name (map item_of l.items) ≡ wide_item (scope_at l.constants.scope.now) l.name (map item_of (drop l.item-index l.items))
