use Rattle.wb_terms.specs.Held.{AreHeld}
use Rattle.wb_terms.proofs.passes.fill_all.Given as goal

abbrev pub invariant-loop-k : goal.invariant-loop-k
invariant-loop-k l = AreHeld l.terms l.env l.words l.k
