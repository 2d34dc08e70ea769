use Rattle.std.proofs.Common.{◌≡◌, drop}
use Rattle.serde_json.specs.View.{items_view}
use Rattle.ila_file.specs.ShapeSpots.{input_misfits}
use Rattle.ila_file.proofs.machine_misfits.some_input.Given as goal

abbrev pub invariant-loop-index : goal.invariant-loop-index
invariant-loop-index l = input_misfits 0 (items_view l.items) ≡ input_misfits l.index (items_view (drop l.index l.items))
