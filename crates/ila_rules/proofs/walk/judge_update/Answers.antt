use Rattle.std.proofs.Common.{ap, ◌∙◌, Option}
use Rattle.std.specs.Prelude.{codes}
use Rattle.wb_values.specs.Value.{Sort}
use Rattle.model_places.specs.Sites.{Spot, part_spot, member_spot}
use Rattle.ila_file.specs.View.{term_view}
use Rattle.ila_file.specs.Places.{spot_view}
use Rattle.ila_rules.specs.Seen.{LookUp, update}
use Rattle.ila_rules.specs.Flaws.{Flaws, with_term}
use Rattle.ila_rules.specs.View.{flaws_view, look_of}
use Rattle.ila_rules.proofs.walk.judge_update.Goals as goal

pub returns : goal.returns
returns c =
    let look : LookUp = look_of c.args.frames.now c.args.last.now in
    let state = c.args.update.now.state.now in
    let with_spot : (s : Option Sort) → Spot → Flaws = λ s spot. with_term look (update state s) spot (term_view c.args.update.now.term) (flaws_view c.args.findings.now) in
    c.in_ok-judge_term.ensures.flaws
    ∙ (ap (λ s. with_spot s (spot_view c.member.result)) c.state_in.ensures
    ∙ ap (with_spot _) (c.member.ensures ∙ ap (λ (s : Spot). member_spot s state) (c.part-spot.ensures ∙ ap (λ (s : Spot). part_spot s (codes "update")) c.item.ensures)))
