use Rattle.std.proofs.Common.{◌≡◌, ◌≤◌, length, drop, None}
use Rattle.scripts.specs.Script.{at_last}
use Rattle.ila_sim.proofs.cuts.last_place.Given as goal

abbrev pub invariant-loop-place : goal.invariant-loop-place
invariant-loop-place l = record {
  within : l.place ≤ length l.text;
  none : at_last l.byte (drop l.place l.text) ≡ None;
}

abbrev pub decreases-loop-place : goal.decreases-loop-place
decreases-loop-place l = l.place
