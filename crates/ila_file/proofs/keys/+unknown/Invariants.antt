use Rattle.std.proofs.Common.{◌≡◌, ◌+◌, ◌*◌, drop}
use Rattle.serde_json.specs.Data.{depth, items_depth}
use Rattle.serde_json.specs.View.{view, items_view}
use Rattle.model_files.specs.Keys.{some_item, instruction_has_unknown_key}
use Rattle.ila_file.proofs.keys.+unknown.Given as goal

-- each goes down by the depth of the data
abbrev pub decreases-instruction_has_unknown_key : goal.decreases-instruction_has_unknown_key
decreases-instruction_has_unknown_key l = 3 * depth (view l.value.now) + 2

abbrev pub decreases-instruction_by_parts : goal.decreases-instruction_by_parts
decreases-instruction_by_parts l = 3 * depth (view l.value.now) + 1

abbrev pub decreases-child_found_has_unknown_key : goal.decreases-child_found_has_unknown_key
decreases-child_found_has_unknown_key l = 3 * depth (view l.value.now)

abbrev pub decreases-child_has_unknown_key : goal.decreases-child_has_unknown_key
decreases-child_has_unknown_key l = 3 * depth (view l.value.now) + 1

abbrev pub decreases-instructions_have_unknown_key : goal.decreases-instructions_have_unknown_key
decreases-instructions_have_unknown_key l = 3 * depth (view l.value.now)

abbrev pub decreases-some_instruction_has_unknown_key : goal.decreases-some_instruction_has_unknown_key
decreases-some_instruction_has_unknown_key l = 3 * items_depth (items_view l.items.now.items) + 3

abbrev pub invariant-some_instruction_has_unknown_key-loop-item : goal.invariant-some_instruction_has_unknown_key-loop-item
invariant-some_instruction_has_unknown_key-loop-item l =
    some_item instruction_has_unknown_key (items_view l.item-items) ≡ some_item instruction_has_unknown_key (items_view (drop l.item-index l.item-items))
