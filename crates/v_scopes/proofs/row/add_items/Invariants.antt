use Rattle.std.proofs.Common.{◌≡◌, ◌++◌, drop, map}
use Rattle.verilog_meaning.specs.Hierarchy.{item_declarations}
use Rattle.v_syntax.specs.Source.{item_of}
use Rattle.v_value.specs.Scope.{scope_at}
use Rattle.v_scopes.specs.Rows.{rows, rows_of}
use Rattle.v_scopes.proofs.row.add_items.Given as goal

abbrev pub invariant-loop-item : goal.invariant-loop-item
invariant-loop-item l =
    rows_of l.list.items ++ rows (scope_at l.constants.scope.now) (item_declarations (map item_of (drop l.item-index l.items)))
    ≡ rows_of l.initial.list.items ++ rows (scope_at l.constants.scope.now) (item_declarations (map item_of l.items))
