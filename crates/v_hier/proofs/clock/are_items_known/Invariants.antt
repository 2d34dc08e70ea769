use Rattle.std.proofs.Common.{◌≡◌, drop, map}
use Rattle.v_syntax.specs.Source.{item_of}
use Rattle.v_hier.specs.Reading.{knows}
use Rattle.v_hier.specs.Clock.{items_names_known}
use Rattle.v_hier.proofs.clock.are_items_known.Given as goal

abbrev pub invariant-loop-item : goal.invariant-loop-item
invariant-loop-item l = items_names_known (knows l.names) (map item_of l.items) ≡ items_names_known (knows l.names) (map item_of (drop l.item-index l.items))
