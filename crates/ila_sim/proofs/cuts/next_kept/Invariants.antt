use Rattle.std.proofs.Common.{◌≡◌, ◌≤◌}
use Rattle.scripts.specs.Script.{without_skipped}
use Rattle.ila_sim.specs.Cuts.{lines_left, room_left}
use Rattle.ila_sim.proofs.cuts.next_kept.Given as goal

abbrev pub invariant-loop-rest : goal.invariant-loop-rest
invariant-loop-rest l = record {
  same : without_skipped (lines_left l.left) ≡ without_skipped (lines_left l.rest);
  shorter : room_left l.rest ≤ room_left l.left;
}

abbrev pub decreases-loop-rest : goal.decreases-loop-rest
decreases-loop-rest l = room_left l.rest
