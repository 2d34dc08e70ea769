use Rattle.std.proofs.Common.{◌≡◌, ◌++◌, take}
use Rattle.term_evaluation.specs.Links.{valuation_at}
use Rattle.term_evaluation.specs.Points.{IsPointOf}
use Rattle.ila_child.specs.Updating.{values_of_updates, AreUpdatesSorted}
use Rattle.ila_child.proofs.updating.keep_updates.Given as goal

abbrev pub invariant-loop-k : goal.invariant-loop-k
invariant-loop-k l = record {
  aside : l.point.aside ≡ l.initial.point.aside ++ values_of_updates l.terms (valuation_at l.terms l.initial.point.values) (take l.k l.updates);
  values : l.point.values ≡ l.initial.point.values;
  sorted : AreUpdatesSorted l.terms (valuation_at l.terms l.initial.point.values) (take l.k l.updates);
  point : IsPointOf l.terms l.point;
}
