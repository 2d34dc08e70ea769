use Rattle.std.proofs.Common.{◌≡◌, drop}
use Rattle.ila_model.specs.Sorted.{are_updates}
use Rattle.ila_model.proofs.sorted.are_updates.Given as goal

abbrev pub invariant-loop-update : goal.invariant-loop-update
invariant-loop-update l =
    are_updates l.parts l.at 0 l.updates ≡ are_updates l.parts l.at l.next (drop l.update-index l.updates)
