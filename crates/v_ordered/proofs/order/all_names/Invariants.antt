use Rattle.std.proofs.Common.{◌≡◌, ◌++◌, ◌∷◌, [], length}
use Rattle.v_places.specs.Views.{spots_of}
use Rattle.v_ordered.specs.Tables.{seen}
use Rattle.v_ordered.specs.Left.{names_left}
use Rattle.v_ordered.proofs.Lined.{listed}
use Rattle.v_ordered.proofs.order.all_names.Given as goal

abbrev pub invariant-loop-task : goal.invariant-loop-task
invariant-loop-task l =
    seen l.names.items ++ names_left (listed [] (spots_of l.places) l.tables l.below) l.stack.items ≡ listed [] (spots_of l.places) l.tables l.below 0

abbrev pub decreases-loop-task : goal.decreases-loop-task
decreases-loop-task l = length (names_left (listed ([] ∷ []) (spots_of l.places) l.tables l.below) l.stack.items)
