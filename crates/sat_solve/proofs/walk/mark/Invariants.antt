use Rattle.std.proofs.Common.{◌≡◌, ℕ, ◌<◌, ◌/◌, true, false, length, slice_index_or}
use Rattle.sat_solve.proofs.walk.mark.Given as goal

abbrev pub invariant-loop-code : goal.invariant-loop-code
invariant-loop-code l = record {
  sized : length l.marks ≡ length l.initial.marks;
  kept : (v : ℕ) → slice_index_or l.initial.marks v false ≡ true → slice_index_or l.marks v false ≡ true;
  all : (k : ℕ) → k < l.code-index → slice_index_or l.marks (slice_index_or l.codes k 0 / 2) false ≡ true;
}
