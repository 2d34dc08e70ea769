use Rattle.std.proofs.Common.{◌≡◌, map, drop}
use Rattle.std.specs.List.{list_any}
use Rattle.v_syntax.specs.Source.{item_of}
use Rattle.v_hier.specs.Instances.{is_part}
use Rattle.test_map_inputs.proofs.asked.has_part.Given as goal

abbrev pub invariant-loop-item : goal.invariant-loop-item
invariant-loop-item l = list_any is_part (map item_of l.items) ≡ list_any is_part (map item_of (drop l.item-index l.items))
