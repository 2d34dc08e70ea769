use Rattle.std.proofs.Common.{◌≡◌, map, drop}
use Rattle.serde_json.specs.View.{items_view}
use Rattle.model_files.specs.Shape.{all_in}
use Rattle.ila_file.specs.Parts.{state_of}
use Rattle.ila_file.specs.View.{state_view}
use Rattle.ila_file.proofs.Lists.{onto}
use Rattle.ila_file.proofs.declarations.states_in.Given as goal

abbrev pub invariant-loop-item : goal.invariant-loop-item
invariant-loop-item l =
    all_in (state_of l.is_private) (items_view l.items) ≡ onto (map state_view l.states.items) (all_in (state_of l.is_private) (items_view (drop l.item-index l.items)))
