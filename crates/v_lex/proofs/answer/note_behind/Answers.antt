use Rattle.std.proofs.Common.{◌≡◌, ℕ, map, IfOk, ap, subst, ◌∙◌}
use Rattle.v_lex.specs.Notes.{place_or_end}
use Rattle.v_lex.proofs.answer.note_behind.Goals as goal

pub returns-clause-file : goal.returns-clause-file
returns-clause-file c =
    let place = c.place_or_end-place.ensures ∙ ap (place_or_end (map (λ f. f.items) c.args.files.now)) c.token_at.ensures in
    c.if_made.ensures.file _ (subst (λ (f : ℕ). IfOk c.note.result (λ n. n.file ≡ f)) (ap (λ p. p.file) place) c.note.ensures.file)
