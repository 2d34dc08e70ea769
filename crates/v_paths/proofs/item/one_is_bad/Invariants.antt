use Rattle.std.proofs.Common.{map, drop}
use Rattle.v_syntax.specs.Source.{item_of}
use Rattle.v_value.specs.Scope.{scope_at}
use Rattle.v_hier.specs.Tables.{has_name}
use Rattle.v_paths.specs.Modules.{AreFitItems, IsBadItem, OneIs}
use Rattle.v_paths.proofs.item.one_is_bad.Given as goal

abbrev pub invariant-loop-item : goal.invariant-loop-item
invariant-loop-item l = record {
  onto : OneIs (IsBadItem (scope_at l.scope) (has_name l.clocks)) (map item_of l.items) → OneIs (IsBadItem (scope_at l.scope) (has_name l.clocks)) (map item_of (drop l.item-index l.items));
  into : OneIs (IsBadItem (scope_at l.scope) (has_name l.clocks)) (map item_of (drop l.item-index l.items)) → OneIs (IsBadItem (scope_at l.scope) (has_name l.clocks)) (map item_of l.items);
  fit : AreFitItems (scope_at l.scope) (map item_of (drop l.item-index l.items));
}
