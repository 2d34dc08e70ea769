use Rattle.std.proofs.Common.{◌∙◌, ◌++◌, ◌∷◌, [], ap, codes}
use Rattle.wb_top.proofs.Joined.{joined_pieces}
use Rattle.wb_top.proofs.texts.refusal_text_by.Goals as goal

pub returns : goal.returns
returns c =
    c.in_ok-extend_from_slice-4.ensures.items
    ∙ (ap (λ x. x ++ 10 ∷ []) (c.in_ok-extend_from_slice-3.ensures.items
    ∙ ap (λ x. x ++ c.args.note.now) (c.in_ok-extend_from_slice-2.ensures.items
    ∙ ap (λ x. x ++ (10 ∷ codes "note ")) (c.in_ok-extend_from_slice.ensures.items ∙ ap (λ x. x ++ c.args.rule.now) c.in_ok-text.ensures.items)))
    ∙ joined_pieces (codes "refused ") c.args.rule.now (10 ∷ codes "note ") c.args.note.now (10 ∷ []))
