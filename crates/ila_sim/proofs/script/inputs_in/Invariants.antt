use Rattle.std.proofs.Common.{◌≡◌, IsTrue, map}
use Rattle.std.specs.List.{list_all}
use Rattle.scripts.specs.Script.{inputs_in, without_skipped}
use Rattle.ila_sim.specs.Cuts.{lines_left, room_left}
use Rattle.ila_sim.specs.Reading.{onto}
use Rattle.ila_sim.specs.Lines.{found_view, sets_view}
use Rattle.ila_sim.specs.Sets.{are_right}
use Rattle.ila_sim.proofs.script.inputs_in.Given as goal

abbrev pub invariant-loop-line : goal.invariant-loop-line
invariant-loop-line l = record {
  read : inputs_in (found_view l.names) (without_skipped (lines_left l.left)) ≡ onto (map (λ s. sets_view (found_view l.names).inputs s.items) l.inputs.items) (inputs_in (found_view l.names) (without_skipped (lines_left l.rest)));
  places : IsTrue (list_all (λ s. are_right (found_view l.names).inputs s.items) l.inputs.items);
}

abbrev pub decreases-loop-line : goal.decreases-loop-line
decreases-loop-line l = room_left l.rest
