use Rattle.emitted_texts.proofs.Typed.{AreTypedTo}
use Rattle.emitted_texts.proofs.checking.check_typed.Given as goal

abbrev pub invariant-loop-place : goal.invariant-loop-place
invariant-loop-place l = AreTypedTo l.terms l.place
