use Rattle.std.proofs.Common.{◌≡◌, ◌++◌, drop}
use Rattle.serde_json.specs.View.{items_view}
use Rattle.trace_reading.specs.Numbers.{numbers_of_items}
use Rattle.trace_reading.proofs.given.numbers_of_items.Given as goal

abbrev pub invariant-loop-item : goal.invariant-loop-item
invariant-loop-item l = l.numbers.items ++ numbers_of_items (items_view (drop l.item-index l.items)) ≡ numbers_of_items (items_view l.items)
