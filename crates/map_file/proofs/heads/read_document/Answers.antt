use Rattle.std.proofs.Common.{◌≡◌, List, ℕ, Bool, true, false, cond, None, refl, sym, ◌∙◌, subst, true≢false, IsUtf8}
use Rattle.std.specs.Str.{is_utf8}
use Rattle.std.proofs.lemmas.Str.{is_utf8-from_IsUtf8, IsUtf8-from_is_utf8}
use Rattle.serde_json.specs.Read.{read}
use Rattle.model_files.specs.Shape.{document}
use Rattle.map_files.specs.Meaning.{judged_document}
use Rattle.map_file.specs.Reading.{IsStoppedBy}
use Rattle.map_file.proofs.heads.read_document.Goals as goal

refused : (bytes : List ℕ) (u : Bool) → is_utf8 bytes ≡ u → (IsUtf8 bytes → read bytes ≡ None) → cond u (read bytes) None ≡ None
refused bytes true e h = h (IsUtf8-from_is_utf8 bytes e)
refused bytes false e h = refl

pub returns-in-Ok-clause-document : goal.returns-in-Ok-clause-document
returns-in-Ok-clause-document c = rw (is_utf8-from_IsUtf8 c.args.bytes.now c.in-Ok.ensures.ok.0) c.in-Ok.ensures.ok.1

pub returns-in-Err-2-clause-document : goal.returns-in-Err-2-clause-document
returns-in-Err-2-clause-document c =
    let none : document c.args.bytes.now ≡ None =
    refused c.args.bytes.now _ refl (c.in-Err.ensures.err (λ m. true≢false (sym (c.is_memory.ensures.1 m) ∙ c.if-is_memory.false))) in
    subst (λ d. IsStoppedBy c.no_document.result (judged_document d)) (sym none) c.no_document.ensures.stop
