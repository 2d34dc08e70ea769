use Rattle.std.proofs.Common.{◌∙◌, ◌++◌, ◌∷◌, [], ap}
use Rattle.std.specs.Prelude.{codes, decimal}
use Rattle.ila_model.specs.Model.{model_of}
use Rattle.run_watch.specs.View.{disagreement_of}
use Rattle.run_watch.specs.Texts.{disagreement_text}
use Rattle.run_watch.proofs.Telling.{line_ended}
use Rattle.run_watch.proofs.text.disagreeing_line.Goals as goal

pub returns : goal.returns
returns c =
    let told = disagreement_text (model_of c.args.model.now) (disagreement_of c.args.which) in
    c.in_ok-push_str-2.ensures.bytes
    ∙ (ap (λ x. x ++ 10 ∷ [])
    (c.in_ok-append_disagreement.ensures
    ∙ ap (λ x. x ++ told)
    (c.in_ok-push_str.ensures.bytes ∙ ap (λ x. x ++ 32 ∷ []) (c.in_ok-append_number.ensures ∙ ap (λ x. x ++ decimal c.args.t) c.in_ok-text.ensures.ok)))
    ∙ line_ended (codes "disagrees " ++ decimal c.args.t) told)
