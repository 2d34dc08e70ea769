use Rattle.std.proofs.Common.{◌≡◌, drop, map}
use Rattle.v_value.specs.Scope.{scope_at}
use Rattle.v_rules.specs.Judging.{none}
use Rattle.v_syntax.specs.Source.{item_of}
use Rattle.v_rules.specs.Items.{module_items_from}
use Rattle.v_rules.proofs.item.broken_items.Given as goal

abbrev pub invariant-loop-item : goal.invariant-loop-item
invariant-loop-item l = module_items_from (scope_at l.names.scope.now) none (map item_of l.items) ≡ module_items_from (scope_at l.names.scope.now) l.all (map item_of (drop l.item-index l.items))
