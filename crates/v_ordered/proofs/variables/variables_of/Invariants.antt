use Rattle.std.proofs.Common.{◌≡◌, ◌||◌, ℕ, List, map, drop}
use Rattle.verilog_meaning.specs.Hierarchy.{item_declarations}
use Rattle.verilog_registers.specs.Order.{is_variable_among}
use Rattle.v_hier.specs.Tables.{has_name}
use Rattle.v_syntax.specs.Source.{item_of}
use Rattle.v_ordered.proofs.variables.variables_of.Given as goal

abbrev pub invariant-loop-item : goal.invariant-loop-item
invariant-loop-item l =
    (q : List ℕ) → is_variable_among (item_declarations (map item_of l.items)) q
    ≡ (has_name l.names q || is_variable_among (item_declarations (map item_of (drop l.item-index l.items))) q)
