use Rattle.std.proofs.Common.{◌≡◌, max, drop}
use Rattle.verilog_meaning.specs.Statement.{items_width}
use Rattle.v_value.specs.Scope.{scope_at}
use Rattle.v_write.specs.Sound.{item_list}
use Rattle.v_write.specs.Matching.{AreValuesNarrow}
use Rattle.v_write.proofs.choosing.items_width.Given as goal

abbrev pub invariant-loop-item : goal.invariant-loop-item
invariant-loop-item l = record {
  same : max l.initial.width (items_width (scope_at l.scope) (item_list l.items))
      ≡ max l.width (items_width (scope_at l.scope) (item_list (drop l.item-index l.items)));
  narrow : AreValuesNarrow (scope_at l.scope) (drop l.item-index l.items);
}
