use Rattle.std.proofs.Common.{◌≡◌, drop}
use Rattle.serde_json.specs.View.{items_view}
use Rattle.ila_file.specs.ShapeSpots.{definition_misfits}
use Rattle.ila_file.proofs.machine_misfits.some_definition.Given as goal

abbrev pub invariant-loop-index : goal.invariant-loop-index
invariant-loop-index l = definition_misfits 0 (items_view l.items) ≡ definition_misfits l.index (items_view (drop l.index l.items))
