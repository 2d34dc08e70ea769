use Rattle.std.proofs.Common.{◌≡◌, drop}
use Rattle.serde_json.specs.View.{items_view}
use Rattle.ila_file.specs.KeySpots.{first_item}
use Rattle.ila_file.specs.ShapeSpots.{is_no_instruction}
use Rattle.ila_file.proofs.instruction_misfits.first_refused.Given as goal

abbrev pub invariant-loop-index : goal.invariant-loop-index
invariant-loop-index l = first_item is_no_instruction 0 (items_view l.items) ≡ first_item is_no_instruction l.index (items_view (drop l.index l.items))
