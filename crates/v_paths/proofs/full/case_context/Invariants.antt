use Rattle.std.proofs.Common.{◌≡◌, max, drop}
use Rattle.std.specs.Prelude.{◌&&◌}
use Rattle.verilog_meaning.specs.Statement.{items_width, items_signed}
use Rattle.v_syntax.specs.Tree.{tree_of}
use Rattle.v_value.specs.Scope.{scope_at}
use Rattle.v_statement.specs.Effects.{item_list}
use Rattle.v_flow.specs.Flow.{AreNarrowItems}
use Rattle.v_paths.specs.Cases.{case_width, case_signed}
use Rattle.v_paths.proofs.full.case_context.Given as goal

abbrev pub invariant-loop-item : goal.invariant-loop-item
invariant-loop-item l = record {
  width : case_width (scope_at l.scope) (tree_of l.value) (item_list l.items)
      ≡ max l.context.width (items_width (scope_at l.scope) (item_list (drop l.item-index l.items)));
  signed : case_signed (scope_at l.scope) (tree_of l.value) (item_list l.items)
      ≡ (l.context.signed && items_signed (scope_at l.scope) (item_list (drop l.item-index l.items)));
  narrow : AreNarrowItems (scope_at l.scope) (drop l.item-index l.items);
}
