use Rattle.std.proofs.Common.{◌≡◌, map, drop}
use Rattle.ila_file.specs.View.{definition_view}
use Rattle.ila_rules.specs.Flaws.{definition_flaws, look_definitions}
use Rattle.ila_rules.specs.View.{look_of, states_frame, flaws_view}
use Rattle.ila_rules.proofs.walk.add_definitions.Given as goal

abbrev pub invariant-loop-index : goal.invariant-loop-index
invariant-loop-index l = record {
  flaws : definition_flaws (look_of l.frames l.frame) l.index (map definition_view (drop l.index l.definitions)) (flaws_view l.findings)
      ≡ definition_flaws (look_of l.frames l.fn.frame) 0 (map definition_view l.definitions) (flaws_view l.fn.findings);
  look : look_definitions (look_of l.frames l.frame) (map definition_view (drop l.index l.definitions))
      ≡ look_definitions (look_of l.frames l.fn.frame) (map definition_view l.definitions);
  states : states_frame l.frame ≡ states_frame l.fn.frame;
}
