use Rattle.std.proofs.Common.{◌≡◌, drop}
use Rattle.serde_json.specs.View.{items_view}
use Rattle.model_files.specs.Keys.{instruction_has_unknown_key}
use Rattle.ila_file.specs.KeySpots.{first_item}
use Rattle.ila_file.proofs.unknown_keys.first_with_unknown_key.Given as goal

abbrev pub invariant-loop-index : goal.invariant-loop-index
invariant-loop-index l = first_item instruction_has_unknown_key 0 (items_view l.items) ≡ first_item instruction_has_unknown_key l.index (items_view (drop l.index l.items))
