use Rattle.std.proofs.Common.{◌≡◌, drop}
use Rattle.serde_json.specs.View.{items_view}
use Rattle.map_file.specs.Places.{instruction_misfits}
use Rattle.map_file.proofs.misfits.instruction_misfits.Given as goal

abbrev pub invariant-loop-index : goal.invariant-loop-index
invariant-loop-index l = instruction_misfits 0 (items_view l.items) ≡ instruction_misfits l.index (items_view (drop l.index l.items))
