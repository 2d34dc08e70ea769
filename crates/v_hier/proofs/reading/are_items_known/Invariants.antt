use Rattle.std.proofs.Common.{◌≡◌, ◌++◌, List, drop, map}
use Rattle.verilog_designs.specs.Names.{all_item_mentions}
use Rattle.v_syntax.specs.Source.{item_of}
use Rattle.verilog_designs.specs.Names.{Mention}
use Rattle.v_hier.specs.Reading.{unknown_with}
use Rattle.v_hier.proofs.reading.are_items_known.Given as goal

abbrev pub invariant-loop-item : goal.invariant-loop-item
invariant-loop-item l =
    (later : List Mention) → unknown_with l.initial.names (all_item_mentions (map item_of l.items) ++ later) ≡ unknown_with l.names (all_item_mentions (map item_of (drop l.item-index l.items)) ++ later)
