use Rattle.std.proofs.Common.{◌≡◌, ◌++◌, map, drop}
use Rattle.v_syntax.specs.Source.{item_of}
use Rattle.v_renamed.specs.NewNames.{new_name}
use Rattle.v_flat.specs.Items.{own_items}
use Rattle.v_flat.proofs.item.add_items.Given as goal

abbrev pub invariant-loop-item : goal.invariant-loop-item
invariant-loop-item l =
    map item_of l.initial.list.items ++ own_items (new_name l.names) (map item_of l.items)
    ≡ map item_of l.list.items ++ own_items (new_name l.names) (map item_of (drop l.item-index l.items))
