use Rattle.std.proofs.Common.{◌≡◌, ◌++◌, take, drop}
use Rattle.wb_terms.specs.Graph.{Graph}
use Rattle.term_evaluation.specs.Points.{IsPointOf}
use Rattle.ila_child.proofs.runs.put_back.Given as goal

abbrev pub invariant-loop-k : goal.invariant-loop-k
invariant-loop-k l = record {
  values : l.point.values ≡ take l.k l.initial.point.aside ++ drop l.k l.initial.point.values;
  aside : l.point.aside ≡ l.initial.point.aside;
  point : (g : Graph) → IsPointOf g l.initial.point → IsPointOf g l.point;
}
