use Rattle.std.proofs.Common.{◌-◌, length, drop}
use Rattle.model_terms.proofs.Telling.{IsCounted}
use Rattle.model_terms.proofs.putting.put_started.Given as goal

abbrev pub invariant-loop-done : goal.invariant-loop-done
invariant-loop-done l = IsCounted l.fn.terms l.terms (drop (length l.instructions - l.done) l.instructions) l.none.0 l.one.0
