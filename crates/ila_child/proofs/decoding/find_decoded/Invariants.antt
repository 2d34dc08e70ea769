use Rattle.std.proofs.Common.{◌≡◌}
use Rattle.term_evaluation.specs.Links.{valuation_at}
use Rattle.term_evaluation.specs.Points.{IsPointOf}
use Rattle.ila_child.specs.Decoding.{decodes, IsFound}
use Rattle.ila_child.proofs.decoding.find_decoded.Given as goal

abbrev pub invariant-loop-place : goal.invariant-loop-place
invariant-loop-place l = record {
  found : IsFound (decodes l.terms (valuation_at l.terms l.initial.point.values) l.instructions) l.place l.found;
  values : l.point.values ≡ l.initial.point.values;
  aside : l.point.aside ≡ l.initial.point.aside;
  point : IsPointOf l.terms l.point;
}
