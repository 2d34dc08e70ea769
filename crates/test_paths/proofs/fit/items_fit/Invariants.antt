use Rattle.std.proofs.Common.{drop, map}
use Rattle.v_syntax.specs.Source.{item_of}
use Rattle.v_value.specs.Scope.{scope_at}
use Rattle.v_paths.specs.Modules.{AreFitItems}
use Rattle.test_paths.proofs.fit.items_fit.Given as goal

abbrev pub invariant-loop-item : goal.invariant-loop-item
invariant-loop-item l =
    AreFitItems (scope_at l.names.scope.now) (map item_of (drop l.item-index l.items)) → AreFitItems (scope_at l.names.scope.now) (map item_of l.items)
