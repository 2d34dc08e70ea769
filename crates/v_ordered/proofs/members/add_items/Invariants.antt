use Rattle.std.proofs.Common.{◌≡◌, ◌++◌, List, map, drop}
use Rattle.verilog_registers.specs.Order.{Member}
use Rattle.v_syntax.specs.Source.{item_of}
use Rattle.v_hier.specs.Tables.{has_name}
use Rattle.v_ordered.specs.Membership.{with_new, all_item_nets}
use Rattle.v_ordered.proofs.members.add_items.Given as goal

abbrev pub invariant-loop-item : goal.invariant-loop-item
invariant-loop-item l =
    (rest : List Member) → with_new l.initial.members (all_item_nets (has_name l.variables) (map item_of l.items) ++ rest)
    ≡ with_new l.members (all_item_nets (has_name l.variables) (map item_of (drop l.item-index l.items)) ++ rest)
