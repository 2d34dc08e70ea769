use Rattle.std.proofs.Common.{◌≡◌, ◌++◌, drop}
use Rattle.serde_json.specs.View.{items_view}
use Rattle.v_design.specs.Seen.{parts_of}
use Rattle.trace_reading.specs.Given.{cycles_of_items}
use Rattle.trace_reading.specs.Reading.{cycles_view}
use Rattle.trace_reading.proofs.given.cycles_of_items.Given as goal

abbrev pub invariant-loop-item : goal.invariant-loop-item
invariant-loop-item l =
    cycles_view l.cycles.items ++ cycles_of_items (parts_of l.design) (items_view (drop l.item-index l.items)) ≡ cycles_of_items (parts_of l.design) (items_view l.items)
