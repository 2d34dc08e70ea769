use Rattle.std.proofs.Common.{◌≡◌, drop}
use Rattle.std.specs.Prelude.{option_map}
use Rattle.ila_rules.specs.View.{brief_view, look_frames, seen_onto}
use Rattle.ila_rules.proofs.scope.find_in_all.Given as goal

abbrev pub invariant-loop-frame : goal.invariant-loop-frame
invariant-loop-frame l = look_frames l.frames l.name ≡ seen_onto (option_map brief_view l.found) (drop l.frame-index l.frames) l.name
