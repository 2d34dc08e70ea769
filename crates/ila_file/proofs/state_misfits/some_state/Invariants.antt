use Rattle.std.proofs.Common.{◌≡◌, drop}
use Rattle.serde_json.specs.View.{items_view}
use Rattle.ila_file.specs.ShapeSpots.{state_misfits}
use Rattle.ila_file.proofs.state_misfits.some_state.Given as goal

abbrev pub invariant-loop-index : goal.invariant-loop-index
invariant-loop-index l = state_misfits l.is_private 0 (items_view l.items) ≡ state_misfits l.is_private l.index (items_view (drop l.index l.items))
