use Rattle.std.proofs.Common.{◌≡◌, drop, map}
use Rattle.v_syntax.specs.Source.{item_of}
use Rattle.v_instances.specs.Interface.{interface_in}
use Rattle.v_instances.specs.Connections.{one_bad_item}
use Rattle.v_instances.proofs.ports.has_bad_item.Given as goal

abbrev pub invariant-loop-item : goal.invariant-loop-item
invariant-loop-item l = one_bad_item (interface_in l.interfaces) (map item_of l.items) ≡ one_bad_item (interface_in l.interfaces) (map item_of (drop l.item-index l.items))
