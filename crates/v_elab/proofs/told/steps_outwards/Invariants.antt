use Rattle.std.proofs.Common.{map}
use Rattle.v_places.specs.Views.{spots_of}
use Rattle.v_elab.proofs.Telling.{LeadsOut}
use Rattle.v_elab.proofs.told.steps_outwards.Given as goal

abbrev pub invariant-loop-at : goal.invariant-loop-at
invariant-loop-at l = LeadsOut (spots_of l.places) l.number l.at (map (λ u. u.now) l.steps.items)

abbrev pub decreases-loop-at : goal.decreases-loop-at
decreases-loop-at l = l.at
