use Rattle.std.proofs.Common.{◌≡◌, IsTrue, length, drop, false}
use Rattle.std.specs.Prelude.{replicate}
use Rattle.ila_sim.specs.Marks.{marks_of}
use Rattle.ila_sim.specs.Sets.{are_within}
use Rattle.ila_sim.proofs.missing.marks.Given as goal

abbrev pub invariant-loop-set : goal.invariant-loop-set
invariant-loop-set l = record {
  marked : marks_of (replicate l.count false) l.sets ≡ marks_of l.marks.items (drop l.set-index l.sets);
  places : IsTrue (are_within l.count (drop l.set-index l.sets));
  count : length l.marks.items ≡ l.count;
}
