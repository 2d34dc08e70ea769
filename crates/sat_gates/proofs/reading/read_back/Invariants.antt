use Rattle.sat_gates.proofs.ReadingLemmas.{AreRead}
use Rattle.sat_gates.proofs.reading.read_back.Given as goal

abbrev pub invariant-loop-place : goal.invariant-loop-place
invariant-loop-place l = AreRead l.terms.names l.fn.blasted.map l.assignment l.place l.values.items
