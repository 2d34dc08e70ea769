use Rattle.std.proofs.Common.{◌≡◌, map, drop}
use Rattle.ila_file.specs.View.{state_view}
use Rattle.ila_rules.specs.Flaws.{state_flaws, look_states, states_within}
use Rattle.ila_rules.specs.View.{look_frame, states_frame, flaws_view}
use Rattle.ila_rules.proofs.walk.add_states.Given as goal

abbrev pub invariant-loop-index : goal.invariant-loop-index
invariant-loop-index l = record {
  flaws : state_flaws l.index (map state_view (drop l.index l.states)) (flaws_view l.findings) ≡ state_flaws 0 (map state_view l.states) (flaws_view l.fn.findings);
  look : look_states (look_frame l.frame) (map state_view (drop l.index l.states)) ≡ look_states (look_frame l.fn.frame) (map state_view l.states);
  states : states_within (states_frame l.frame) (map state_view (drop l.index l.states)) ≡ states_within (states_frame l.fn.frame) (map state_view l.states);
}
