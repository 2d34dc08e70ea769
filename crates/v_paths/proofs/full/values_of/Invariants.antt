use Rattle.std.proofs.Common.{◌≡◌, ◌≤◌, ℕ, drop}
use Rattle.std.specs.Prelude.{◌||◌}
use Rattle.verilog_meaning.specs.Statement.{items_width}
use Rattle.v_value.specs.Scope.{scope_at}
use Rattle.v_statement.specs.Effects.{item_list}
use Rattle.v_flow.specs.Flow.{AreNarrowItems}
use Rattle.v_paths.specs.Cases.{one_item_has, has_number}
use Rattle.v_paths.proofs.full.values_of.Given as goal

abbrev pub invariant-loop-item : goal.invariant-loop-item
invariant-loop-item l = record {
  same : (x : ℕ) → one_item_has (scope_at l.scope) l.context.width l.context.signed x l.items
      ≡ (has_number l.values x || one_item_has (scope_at l.scope) l.context.width l.context.signed x (drop l.item-index l.items));
  narrow : AreNarrowItems (scope_at l.scope) (drop l.item-index l.items);
  within : items_width (scope_at l.scope) (item_list (drop l.item-index l.items)) ≤ l.context.width;
}
