use Rattle.std.proofs.Common.{◌≡◌, ◌||◌, ℕ, List, drop, map}
use Rattle.verilog_meaning.specs.Hierarchy.{body_parameters}
use Rattle.verilog_designs.specs.Names.{is_among, parameter_names}
use Rattle.v_syntax.specs.Source.{item_of}
use Rattle.v_hier.specs.Tables.{has_name}
use Rattle.v_modules.proofs.parameter.add_items.Given as goal

abbrev pub invariant-loop-item : goal.invariant-loop-item
invariant-loop-item l = (q : List ℕ) → (has_name l.names q || is_among (parameter_names (body_parameters (map item_of (drop l.item-index l.items)))) q) ≡ (has_name l.initial.names q || is_among (parameter_names (body_parameters (map item_of l.items))) q)
