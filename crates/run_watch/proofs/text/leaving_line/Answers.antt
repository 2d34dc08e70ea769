use Rattle.std.proofs.Common.{◌∙◌, ◌++◌, ◌∷◌, [], ap}
use Rattle.std.specs.Prelude.{codes, decimal}
use Rattle.watched_runs.specs.Watched.{premise_text}
use Rattle.run_watch.specs.View.{premise_of}
use Rattle.run_watch.proofs.Telling.{line_ended}
use Rattle.run_watch.proofs.text.leaving_line.Goals as goal

pub returns : goal.returns
returns c =
    let told = premise_text (premise_of c.args.premise) in
    c.in_ok-push_str-2.ensures.bytes
    ∙ (ap (λ x. x ++ 10 ∷ [])
    (c.in_ok-append_premise.ensures
    ∙ ap (λ x. x ++ told)
    (c.in_ok-push_str.ensures.bytes ∙ ap (λ x. x ++ 32 ∷ []) (c.in_ok-append_number.ensures ∙ ap (λ x. x ++ decimal c.args.t) c.in_ok-text.ensures.ok)))
    ∙ line_ended (codes "outside " ++ decimal c.args.t) told)
