use Rattle.std.proofs.Common.{◌≡◌, drop}
use Rattle.verilog_meaning.specs.Statement.{items_signed}
use Rattle.v_value.specs.Scope.{scope_at}
use Rattle.v_write.specs.Sound.{item_list}
use Rattle.v_write.proofs.choosing.items_signed.Given as goal

abbrev pub invariant-loop-item : goal.invariant-loop-item
invariant-loop-item l =
    items_signed (scope_at l.scope) (item_list l.items) ≡ items_signed (scope_at l.scope) (item_list (drop l.item-index l.items))
