use Rattle.model_terms.proofs.Pointing.{IsBeginning}
use Rattle.model_terms.proofs.points.begin.Given as goal

abbrev pub invariant-loop-k : goal.invariant-loop-k
invariant-loop-k l = IsBeginning l.fn.terms l.terms l.source.names l.first l.initial_values l.fn.point.items l.point.items l.k
