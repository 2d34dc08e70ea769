use Rattle.std.proofs.Common.{◌≡◌, map, drop}
use Rattle.ila_file.specs.View.{update_view}
use Rattle.ila_rules.specs.Flaws.{update_flaws}
use Rattle.ila_rules.specs.View.{look_of, states_frames, flaws_view}
use Rattle.ila_rules.proofs.walk.judge_updates.Given as goal

abbrev pub invariant-loop-update : goal.invariant-loop-update
invariant-loop-update l =
    update_flaws (look_of l.frames l.last) (states_frames l.frames) l.index l.name (map update_view (drop l.update-index l.updates)) (flaws_view l.findings)
    ≡ update_flaws (look_of l.frames l.last) (states_frames l.frames) l.index l.name (map update_view l.updates) (flaws_view l.fn.findings)
