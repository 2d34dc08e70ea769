use Rattle.std.proofs.Common.{◌≡◌, drop}
use Rattle.serde_json.specs.View.{items_view}
use Rattle.ila_file.specs.KeySpots.{state_spots}
use Rattle.ila_file.proofs.unknown_keys.some_state_spot.Given as goal

abbrev pub invariant-loop-index : goal.invariant-loop-index
invariant-loop-index l = state_spots 0 (items_view l.items) ≡ state_spots l.index (items_view (drop l.index l.items))
