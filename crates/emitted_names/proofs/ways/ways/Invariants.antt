use Rattle.emitted_names.proofs.PartLists.{AreWaysSo}
use Rattle.emitted_names.proofs.ways.ways.Given as goal

abbrev pub invariant-loop-place : goal.invariant-loop-place
invariant-loop-place l = AreWaysSo l.terms l.instruction l.decode.0 l.updates l.place l.ways.items
