use Rattle.std.proofs.Common.{◌≡◌, drop}
use Rattle.serde_json.specs.View.{items_view}
use Rattle.map_file.specs.Places.{text_misfits}
use Rattle.map_file.proofs.misfits.text_misfits.Given as goal

abbrev pub invariant-loop-index : goal.invariant-loop-index
invariant-loop-index l = text_misfits l.key 0 (items_view l.items) ≡ text_misfits l.key l.index (items_view (drop l.index l.items))
