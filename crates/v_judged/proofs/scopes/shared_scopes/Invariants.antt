use Rattle.v_places.specs.Views.{spots_of}
use Rattle.v_judged.specs.Sharing.{IsLike, IsSharingFirst}
use Rattle.v_judged.specs.Spots.{spots_in}
use Rattle.v_judged.proofs.scopes.shared_scopes.Given as goal

abbrev pub invariant-loop-place : goal.invariant-loop-place
invariant-loop-place l = IsSharingFirst IsLike (spots_in l.scopes.items) l.numbers.items (spots_of l.places) l.place-index
