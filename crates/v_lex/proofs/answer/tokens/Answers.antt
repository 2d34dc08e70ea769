use Rattle.std.proofs.Common.{map, sym, ◌∙◌}
use Rattle.v_token.specs.View.{tokens_of}
use Rattle.v_lex.proofs.Answered.{answered, noted_somewhere}
use Rattle.v_lex.proofs.Joined.{walk_gives}
use Rattle.v_lex.proofs.Located.{spots_are}
use Rattle.v_lex.proofs.answer.tokens.Goals as goal

pub returns-in-Err-Refused-clause-answer : goal.returns-in-Err-Refused-clause-answer
returns-in-Err-Refused-clause-answer c =
    answered c.in-Err-Refused.kind c.refusal.result _ c.refusal.ensures.kind (sym (walk_gives (map (λ f. f.items) c.args.files.now)) ∙ (rw c.in-Err-Refused.field-0-is at c.in-Err-Refused.ensures.read))

pub returns-in-Err-Refused-clause-note : goal.returns-in-Err-Refused-clause-note
returns-in-Err-Refused-clause-note c = noted_somewhere (map (λ f. f.items) c.args.files.now) _ c.refusal.result c.refusal.ensures.note

pub returns-in-Ok-clause-answer : goal.returns-in-Ok-clause-answer
returns-in-Ok-clause-answer c = sym (walk_gives (map (λ f. f.items) c.args.files.now)) ∙ c.in-Ok.ensures.read

pub returns-in-Ok-clause-places : goal.returns-in-Ok-clause-places
returns-in-Ok-clause-places c = λ s.
    let files = map (λ f. f.items) c.args.files.now in
    c.in-Ok.ensures.places s ∙ spots_are files (tokens_of c.in-Ok.tokens.items) (sym (walk_gives files) ∙ c.in-Ok.ensures.read)
