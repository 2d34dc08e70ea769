use Rattle.std.proofs.Common.{◌≡◌, map, drop}
use Rattle.serde_json.specs.View.{items_view}
use Rattle.model_files.specs.Shape.{all_in, input_in}
use Rattle.ila_file.specs.View.{input_view}
use Rattle.ila_file.proofs.Lists.{onto}
use Rattle.ila_file.proofs.declarations.inputs_in.Given as goal

abbrev pub invariant-loop-item : goal.invariant-loop-item
invariant-loop-item l =
    all_in input_in (items_view l.items) ≡ onto (map input_view l.inputs.items) (all_in input_in (items_view (drop l.item-index l.items)))
