use Rattle.condition_terms.proofs.Sorting.{AllFit}
use Rattle.condition_terms.proofs.sorts.check_sorts.Given as goal

abbrev pub invariant-loop-id : goal.invariant-loop-id
invariant-loop-id l = AllFit l.terms l.id
