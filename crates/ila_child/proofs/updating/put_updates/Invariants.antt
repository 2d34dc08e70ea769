use Rattle.std.proofs.Common.{◌≡◌, ◌+◌, drop, length}
use Rattle.wb_terms.specs.Graph.{Graph}
use Rattle.term_evaluation.specs.Points.{IsPointOf}
use Rattle.ila_child.specs.Updating.{with_kept}
use Rattle.ila_child.proofs.updating.put_updates.Given as goal

abbrev pub invariant-loop-k : goal.invariant-loop-k
invariant-loop-k l = record {
  values : with_kept (drop l.k l.updates) (drop (l.first + l.k) l.initial.point.aside) l.point.values ≡ with_kept l.updates (drop l.first l.initial.point.aside) l.initial.point.values;
  count : length l.point.values ≡ length l.initial.point.values;
  aside : l.point.aside ≡ l.initial.point.aside;
  point : (g : Graph) → IsPointOf g l.initial.point → IsPointOf g l.point;
}
