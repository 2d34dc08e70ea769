use Rattle.model_terms.proofs.Choosing.{IsChoosing}
use Rattle.model_terms.proofs.choices.put_choices.Given as goal

abbrev pub invariant-loop-place : goal.invariant-loop-place
invariant-loop-place l = IsChoosing l.fn.terms l.terms l.source.names l.condition.0 l.xs l.ys l.place l.chosen.items
