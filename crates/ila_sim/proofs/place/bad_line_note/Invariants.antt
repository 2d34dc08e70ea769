use Rattle.std.proofs.Common.{◌≡◌, ◌+◌, ◌≤◌, ◌^◌, suc, true}
use Rattle.scripts.specs.Script.{lines_of}
use Rattle.ila_sim.specs.Cuts.{lines_left, room_left}
use Rattle.ila_sim.specs.Faults.{first_bad_note}
use Rattle.ila_sim.specs.Lines.{found_view}
use Rattle.ila_sim.proofs.place.bad_line_note.Given as goal

abbrev pub invariant-loop-rest : goal.invariant-loop-rest
invariant-loop-rest l = record {
  noted : first_bad_note (found_view l.found) 1 true (lines_of l.bytes) ≡ first_bad_note (found_view l.found) (suc l.number) l.is_first (lines_left l.rest);
  few : l.number + room_left l.rest ≤ 2 ^ 64;
}

abbrev pub decreases-loop-rest : goal.decreases-loop-rest
decreases-loop-rest l = room_left l.rest
