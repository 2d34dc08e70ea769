use Rattle.std.proofs.Common.{◌≡◌, ◌++◌, drop}
use Rattle.v_renamed.specs.NewNames.{new_name}
use Rattle.v_places.specs.Views.{spots_of}
use Rattle.v_flat.specs.Outputs.{own_lists}
use Rattle.v_flat.specs.Views.{lists_of}
use Rattle.v_flat.proofs.own.all_own_items.Given as goal

abbrev pub invariant-loop-place : goal.invariant-loop-place
invariant-loop-place l =
    own_lists (new_name l.names) (spots_of l.places) ≡ lists_of l.lists.items ++ own_lists (new_name l.names) (spots_of (drop l.place-index l.places))
