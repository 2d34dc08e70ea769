use Rattle.std.proofs.Common.{◌≡◌, ◌<◌, ℕ, length}
use Rattle.term_evaluation.specs.Pending.{stamp_at}
use Rattle.term_evaluation.proofs.points.set_to_0.Given as goal

abbrev pub invariant-loop-k : goal.invariant-loop-k
invariant-loop-k l = record {
  length : length l.stamps.items ≡ length l.initial.stamps.items;
  zeros : (j : ℕ) → j < l.k → stamp_at l.stamps.items j ≡ 0;
}
