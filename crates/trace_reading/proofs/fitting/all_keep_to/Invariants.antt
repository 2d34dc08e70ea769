use Rattle.std.proofs.Common.{◌≡◌, drop, length}
use Rattle.serde_json.specs.View.{items_view}
use Rattle.trace_reading.specs.Fitting.{all_keep_to}
use Rattle.trace_reading.proofs.fitting.all_keep_to.Given as goal

abbrev pub invariant-loop-index : goal.invariant-loop-index
invariant-loop-index l = record {
  same : length l.masks ≡ length l.items;
  rest : all_keep_to l.masks (items_view l.items) ≡ all_keep_to (drop l.index l.masks) (items_view (drop l.index l.items));
}
