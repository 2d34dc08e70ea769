use Rattle.std.proofs.Common.{ℕ, ◌<◌}
use Rattle.ob_mem.specs.Words.{entry_at, marks_of}
use Rattle.ob_mem.proofs.words.new_marks.Given as goal

abbrev pub invariant-loop-place : goal.invariant-loop-place
invariant-loop-place l = (k : ℕ) → k < l.place → marks_of (entry_at l.terms.names k).0 < l.marks
