use Rattle.std.proofs.Common.{◌≡◌, drop}
use Rattle.ila_file.specs.View.{instructions_view}
use Rattle.ila_rules.specs.Flaws.{instructions_flaws}
use Rattle.ila_rules.specs.View.{look_of, look_frames, states_frames, flaws_view}
use Rattle.ila_rules.proofs.walk.+walk.Given as goal

abbrev pub invariant-judge_machine-loop-index : goal.invariant-judge_machine-loop-index
invariant-judge_machine-loop-index l = record {
  frames : l.frames.items ≡ l.initial.frames.items;
  flaws : instructions_flaws (look_frames l.initial.frames.items) (look_of l.initial.frames.items l.last) (states_frames l.initial.frames.items)
      l.index (instructions_view (drop l.index l.instruction-items)) (flaws_view l.findings)
      ≡ instructions_flaws (look_frames l.initial.frames.items) (look_of l.initial.frames.items l.last) (states_frames l.initial.frames.items)
      0 (instructions_view l.instruction-items) (flaws_view l.initial.findings);
}
