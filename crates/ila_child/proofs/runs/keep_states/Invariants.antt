use Rattle.std.proofs.Common.{◌≡◌, ◌++◌, take}
use Rattle.wb_terms.specs.Graph.{Graph}
use Rattle.term_evaluation.specs.Points.{IsPointOf}
use Rattle.ila_child.proofs.runs.keep_states.Given as goal

abbrev pub invariant-loop-k : goal.invariant-loop-k
invariant-loop-k l = record {
  aside : l.point.aside ≡ l.initial.point.aside ++ take l.k l.initial.point.values;
  values : l.point.values ≡ l.initial.point.values;
  point : (g : Graph) → IsPointOf g l.initial.point → IsPointOf g l.point;
}
