use Rattle.std.proofs.Common.{◌≡◌, drop}
use Rattle.serde_json.specs.View.{items_view}
use Rattle.map_file.specs.Places.{instruction_keys_in}
use Rattle.map_file.proofs.keys.instruction_keys.Given as goal

abbrev pub invariant-loop-index : goal.invariant-loop-index
invariant-loop-index l = instruction_keys_in 0 (items_view l.items) ≡ instruction_keys_in l.index (items_view (drop l.index l.items))
