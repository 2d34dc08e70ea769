use Rattle.std.proofs.Common.{Ok, sym, ap, ◌∙◌}
use Rattle.ila_model.specs.Model.{model_of}
use Rattle.map_file.specs.View.{map_view}
use Rattle.v_lex.specs.Reading.{refusal_of}
use Rattle.v_token.specs.View.{tokens_of}
use Rattle.check_cases.specs.Files.{IsKindOfFiles}
use Rattle.read_cases.proofs.case.of_text.Goals as goal

pub of_tokens-requires : goal.of_tokens-requires
of_tokens-requires c = c.in-Ok.ensures.answer ∙ ap (λ ts. Ok (tokens_of ts)) (sym c.deref.ensures.value)

pub returns-in-Ok : goal.returns-in-Ok
returns-in-Ok c = c.of_tokens.ensures

pub returns-in-Err-Refused : goal.returns-in-Err-Refused
returns-in-Err-Refused c =
    let said = rw c.in-Err-Refused.field-0-is at c.in-Err-Refused.ensures.answer in
    rw c.in-Err-Refused.field-0-is
    (λ m p h. IsKindOfFiles.of_text (model_of c.args.model) (map_view c.args.written.now) (refusal_of c.in-Err-Refused.refusal.kind) h said)
