use Rattle.std.proofs.Common.{◌≡◌, ◌+◌, map, drop}
use Rattle.wb_terms.specs.Environment.{AreOfSorts, as_value}
use Rattle.term_evaluation.specs.Points.{IsPointOf}
use Rattle.ila_child.specs.Runs.{with_values}
use Rattle.ila_child.proofs.runs.set_inputs.Given as goal

abbrev pub invariant-loop-k : goal.invariant-loop-k
invariant-loop-k l = record {
  values : with_values (l.first + l.k) (drop l.k (map as_value l.values)) l.point.values ≡ with_values l.first (map as_value l.values) l.initial.point.values;
  fits : AreOfSorts l.model.parts.terms.names l.point.values;
  aside : l.point.aside ≡ l.initial.point.aside;
  point : IsPointOf l.model.parts.terms l.point;
}
