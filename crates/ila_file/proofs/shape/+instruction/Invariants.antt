use Rattle.std.proofs.Common.{◌≡◌, ◌+◌, ◌*◌, map, drop}
use Rattle.serde_json.specs.Data.{depth, items_depth}
use Rattle.serde_json.specs.View.{view, items_view}
use Rattle.model_files.specs.Shape.{all_instructions}
use Rattle.ila_file.specs.View.{instruction_view}
use Rattle.ila_file.proofs.Instructions.{before}
use Rattle.ila_file.proofs.shape.+instruction.Given as goal

-- each goes down by the depth of the data
abbrev pub decreases-instruction_in : goal.decreases-instruction_in
decreases-instruction_in l = 3 * depth (view l.value.now) + 2

abbrev pub decreases-instruction_by_parts : goal.decreases-instruction_by_parts
decreases-instruction_by_parts l = 3 * depth (view l.value.now) + 1

abbrev pub decreases-child_under : goal.decreases-child_under
decreases-child_under l = 3 * depth (view l.value.now)

abbrev pub decreases-child_in : goal.decreases-child_in
decreases-child_in l = 3 * depth (view l.value.now) + 1

abbrev pub decreases-instructions_under : goal.decreases-instructions_under
decreases-instructions_under l = 3 * depth (view l.value.now)

abbrev pub decreases-written_instructions : goal.decreases-written_instructions
decreases-written_instructions l = 3 * items_depth (items_view l.items.now.items) + 3

abbrev pub invariant-written_instructions-loop-item : goal.invariant-written_instructions-loop-item
invariant-written_instructions-loop-item l =
    all_instructions (items_view l.item-items) ≡ before (map instruction_view l.instructions.items) (all_instructions (items_view (drop l.item-index l.item-items)))
