use Rattle.std.proofs.Common.{◌≡◌, ap, ◌∙◌, subst, map}
use Rattle.std.specs.Prelude.{IfOk, codes}
use Rattle.model_places.specs.Sites.{Spot, part_spot, instruction_spot}
use Rattle.ila_file.specs.View.{term_view, update_view}
use Rattle.ila_rules.specs.Seen.{LookUp, condition}
use Rattle.ila_rules.specs.Flaws.{Flaws, with_term, update_flaws}
use Rattle.ila_rules.specs.View.{flaws_view, look_of, states_frames}
use Rattle.ila_rules.proofs.walk.judge_own.Goals as goal

pub returns : goal.returns
returns c =
    let look : LookUp = look_of c.args.frames.now c.args.last.now in
    let decoded : Spot → Flaws = λ spot. with_term look condition spot (term_view c.args.decode.now) (flaws_view c.args.findings.now) in
    let spot : Spot = part_spot (instruction_spot c.args.index c.args.name.now) (codes "decode") in
    let first : flaws_view c.judge_term.new.self ≡ decoded spot =
    c.in_ok-judge_term.ensures.flaws ∙ ap decoded (c.part-spot.ensures ∙ ap (λ (s : Spot). part_spot s (codes "decode")) c.item.ensures) in
    subst (λ (f : Flaws). IfOk c.judge_updates.result (λ _. flaws_view c.judge_updates.new.findings ≡ update_flaws look (states_frames c.args.frames.now) c.args.index c.args.name.now (map update_view c.args.updates.now) f))
    first c.judge_updates.ensures
