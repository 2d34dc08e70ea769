use Rattle.std.proofs.Common.{◌≡◌, map, drop}
use Rattle.serde_json.specs.View.{items_view}
use Rattle.model_files.specs.Shape.{all_in, definition_in}
use Rattle.ila_file.specs.View.{definition_view}
use Rattle.ila_file.proofs.Lists.{onto}
use Rattle.ila_file.proofs.declarations.definitions_in.Given as goal

abbrev pub invariant-loop-item : goal.invariant-loop-item
invariant-loop-item l =
    all_in definition_in (items_view l.items) ≡ onto (map definition_view l.definitions.items) (all_in definition_in (items_view (drop l.item-index l.items)))
