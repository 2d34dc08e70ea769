use Rattle.std.proofs.Common.{ℕ, List, map, string_bytes, subst, sym}
use Rattle.v_lex.specs.Reading.{refusal_of}
use Rattle.check_cases.specs.Kinds.{text_kind}
use Rattle.wb_top.specs.Texts.{IsRefusalBy}
use Rattle.wb_top.proofs.Read.{text_refused}
use Rattle.wb_top.proofs.rtl.simulated_rtl.Goals as goal

pub returns-in_ok-text-in-Err-Refused-clause-told : goal.returns-in_ok-text-in-Err-Refused-clause-told
returns-in_ok-text-in-Err-Refused-clause-told c =
    text_refused (string_bytes c.args.design.now.top) (string_bytes c.args.design.now.clock) c.args.script.now (map (λ d. d.items) c.args.designs.now)
    (refusal_of c.in-Err-Refused.broken.kind) c.plain.result.text.items c.plain.result.status
    (rw c.in-Err-Refused.field-0-is at c.in-Err-Refused.ensures.answer) c.plain.ensures.status
    (subst (λ (t : List ℕ). IsRefusalBy (text_kind (refusal_of c.in-Err-Refused.broken.kind)) t) (sym c.plain.ensures.text) c.in_ok-text-in-Err-Refused.ensures)
