use Rattle.std.proofs.Common.{◌≡◌, length, drop}
use Rattle.model_terms.specs.Copied.{with_copies}
use Rattle.model_terms.proofs.points.updated.Given as goal

abbrev pub invariant-loop-place : goal.invariant-loop-place
invariant-loop-place l = record {
  made : with_copies l.copies (drop l.place l.updates) l.ids.items ≡ with_copies l.copies l.updates l.point;
  long : length l.ids.items ≡ length l.point;
}
