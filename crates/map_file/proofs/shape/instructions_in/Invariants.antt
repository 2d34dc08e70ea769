use Rattle.std.proofs.Common.{◌≡◌, map, drop}
use Rattle.serde_json.specs.View.{items_view}
use Rattle.model_files.specs.Shape.{all_in}
use Rattle.map_files.specs.Shape.{entry_in}
use Rattle.map_file.specs.View.{entry_view}
use Rattle.map_file.proofs.Lists.{onto}
use Rattle.map_file.proofs.shape.instructions_in.Given as goal

abbrev pub invariant-loop-item : goal.invariant-loop-item
invariant-loop-item l =
    all_in entry_in (items_view l.items)
    ≡ onto (map entry_view l.instructions.items) (all_in entry_in (items_view (drop l.item-index l.items)))
