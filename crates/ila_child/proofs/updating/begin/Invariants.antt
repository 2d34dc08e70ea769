use Rattle.std.proofs.Common.{◌≡◌, ◌+◌, drop}
use Rattle.wb_terms.specs.Environment.{AreOfSorts}
use Rattle.term_evaluation.specs.Points.{IsPointOf}
use Rattle.ila_child.specs.Updating.{with_initial}
use Rattle.ila_child.proofs.updating.begin.Given as goal

abbrev pub invariant-loop-k : goal.invariant-loop-k
invariant-loop-k l = record {
  values : with_initial l.terms.names (l.first + l.k) (drop l.k l.initial_values) l.point.values ≡ with_initial l.terms.names l.first l.initial_values l.initial.point.values;
  fits : AreOfSorts l.terms.names l.point.values;
  aside : l.point.aside ≡ l.initial.point.aside;
  point : IsPointOf l.terms l.point;
}
