use Rattle.std.proofs.Common.{◌≡◌, drop}
use Rattle.ila_rules.specs.View.{states_frames}
use Rattle.ila_rules.proofs.scope.state_in.Given as goal

abbrev pub invariant-loop-frame : goal.invariant-loop-frame
invariant-loop-frame l = states_frames l.frames l.name ≡ states_frames (drop l.frame-index l.frames) l.name
