use Rattle.std.proofs.Common.{◌≡◌, List, ℕ, Bool, true, false, cond, Some, None, IfOk, refl, sym, ◌∙◌, subst, true≢false, IsUtf8}
use Rattle.std.specs.Str.{is_utf8}
use Rattle.std.proofs.lemmas.Str.{is_utf8-from_IsUtf8, IsUtf8-from_is_utf8}
use Rattle.serde_json.specs.Read.{read}
use Rattle.serde_json.specs.View.{view}
use Rattle.model_files.specs.Shape.{document}
use Rattle.v_design.specs.Seen.{parts_of}
use Rattle.trace_reading.specs.Reading.{answer_view, judged_document}
use Rattle.trace_reading.proofs.reading.read_by_parts.Goals as goal

refused : (bytes : List ℕ) (u : Bool) → is_utf8 bytes ≡ u → (IsUtf8 bytes → read bytes ≡ None) → cond u (read bytes) None ≡ None
refused bytes true e h = h (IsUtf8-from_is_utf8 bytes e)
refused bytes false e h = refl

pub returns-in-Ok : goal.returns-in-Ok
returns-in-Ok c =
    let is : document c.args.bytes.now ≡ Some (view c.in-Ok.value) = rw (is_utf8-from_IsUtf8 c.args.bytes.now c.in-Ok.ensures.ok.0) c.in-Ok.ensures.ok.1 in
    subst (λ o. IfOk c.judged_data.result (λ r. answer_view r ≡ judged_document (parts_of c.args.design.now) c.args.obligations.now o)) (sym is) c.judged_data.ensures

pub returns-in-Err-2 : goal.returns-in-Err-2
returns-in-Err-2 c =
    let none : document c.args.bytes.now ≡ None =
    refused c.args.bytes.now _ refl (c.in-Err.ensures.err (λ m. true≢false (sym (c.is_memory.ensures.1 m) ∙ c.if-is_memory.false))) in
    subst (λ o. IfOk c.no_document.result (λ r. answer_view r ≡ judged_document (parts_of c.args.design.now) c.args.obligations.now o)) (sym none) c.no_document.ensures
