use Rattle.std.proofs.Common.{ap, ◌∙◌}
use Rattle.std.specs.Prelude.{codes}
use Rattle.ila_file.specs.View.{term_view}
use Rattle.ila_rules.specs.Seen.{LookUp, with_name, brief_at, fetch}
use Rattle.model_places.specs.Sites.{Spot, key_spot}
use Rattle.ila_rules.specs.Flaws.{with_term}
use Rattle.ila_rules.specs.View.{flaws_view, look_of}
use Rattle.ila_rules.proofs.Frames.{more_in, none_in}
use Rattle.ila_rules.proofs.walk.frame_of_fetch.Goals as goal

pub returns-clause-flaws : goal.returns-clause-flaws
returns-clause-flaws c =
    c.in_ok-seen.ensures.flaws
    ∙ (ap (λ (s : Spot). with_term (look_of c.args.frames.now c.new-last.result) fetch s (term_view c.args.term.now) (flaws_view c.args.findings.now)) c.key.ensures
    ∙ ap (λ (l : LookUp). with_term l fetch (key_spot (codes "fetch")) (term_view c.args.term.now) (flaws_view c.args.findings.now)) (none_in c.args.frames.now c.new-last.result c.new-last.ensures.look))

pub returns-clause-look : goal.returns-clause-look
returns-clause-look c =
    more_in c.args.frames.now c.new-last.result c.declare.new.self (codes "fetch") _ _ c.in_ok-declare.ensures.look c.in_ok-seen.ensures.brief
    ∙ ap (λ (l : LookUp). with_name (codes "fetch") (brief_at l (term_view c.args.term.now)) l) (none_in c.args.frames.now c.new-last.result c.new-last.ensures.look)
