use Rattle.std.proofs.Common.{◌≡◌, map, drop}
use Rattle.ila_file.specs.View.{input_view}
use Rattle.ila_rules.specs.Flaws.{input_flaws, look_inputs}
use Rattle.ila_rules.specs.View.{look_frame, states_frame, flaws_view}
use Rattle.ila_rules.proofs.walk.input_frame.Given as goal

abbrev pub invariant-loop-index : goal.invariant-loop-index
invariant-loop-index l = record {
  flaws : input_flaws l.index (map input_view (drop l.index l.inputs)) (flaws_view l.findings) ≡ input_flaws 0 (map input_view l.inputs) (flaws_view l.fn.findings);
  look : look_inputs (look_frame l.frame) (map input_view (drop l.index l.inputs)) ≡ look_inputs (look_frame l.initial.frame) (map input_view l.inputs);
  states : states_frame l.frame ≡ states_frame l.initial.frame;
}
