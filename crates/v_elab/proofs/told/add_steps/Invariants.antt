use Rattle.std.proofs.Common.{◌≤◌, length, map}
use Rattle.std.specs.String.{string_bytes}
use Rattle.v_elab.proofs.Telling.{AreWritten}
use Rattle.v_elab.proofs.told.add_steps.Given as goal

abbrev pub invariant-loop-left : goal.invariant-loop-left
invariant-loop-left l = record {
  within : l.left ≤ length l.steps;
  written : AreWritten (string_bytes l.initial.text) (map (λ u. u.now) l.steps) l.left (string_bytes l.text);
}

abbrev pub decreases-loop-left : goal.decreases-loop-left
decreases-loop-left l = l.left
