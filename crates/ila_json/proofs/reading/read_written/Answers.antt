use Rattle.std.proofs.Common.{ap, ◌∙◌, subst}
use Rattle.serde_json.specs.View.{view}
use Rattle.model_files.specs.Meaning.{of_shape, with_known_keys}
use Rattle.ila_file.specs.Places.{note_text}
use Rattle.ila_file.specs.Reading.{IsShapeNoted}
use Rattle.ila_file.specs.View.{model_view}
use Rattle.ila_rules.specs.Rule.{rule_view}
use Rattle.ila_whole.proofs.ShapeOf.{shaped_in}
use Rattle.ila_json.specs.Reading.{IsRefusalIn, IsFoundNoted}
use Rattle.ila_json.proofs.Refusals.{refusal_found, none_found, note_of_data, note_of_shape}
use Rattle.ila_json.proofs.reading.read_written.Goals as goal

pub returns-in-Some-clause-reading : goal.returns-in-Some-clause-reading
returns-in-Some-clause-reading c =
    let d = view c.args.value.now in
    let m = model_view c.in-Ok.written in
    ap (of_shape d) c.in-Ok.ensures.shape ∙ refusal_found (with_known_keys d m) (rule_view c.in-Some.refusal.rule) (subst (λ o. IsRefusalIn o (with_known_keys d m)) c.in-Some.is c.in_ok-found-in-Ok.ensures.found)

pub returns-in-Ok-clause-reading : goal.returns-in-Ok-clause-reading
returns-in-Ok-clause-reading c =
    let d = view c.args.value.now in
    let m = model_view c.in-Ok.written in
    let none = none_found d m (subst (λ o. IsRefusalIn o (with_known_keys d m)) c.in-None.is c.in_ok-found-in-Ok.ensures.found) in
    (ap (of_shape d) c.in-Ok.ensures.shape ∙ none.0, none.1, shaped_in d m c.in-Ok.ensures.shape)

pub returns-in-Some-clause-note : goal.returns-in-Some-clause-note
returns-in-Some-clause-note c =
    let d = view c.args.value.now in
    let m = model_view c.in-Ok.written in
    note_of_data (rule_view c.in-Some.refusal.rule) d m (note_text c.in-Some.refusal.note) c.in-Ok.ensures.shape (subst (IsFoundNoted d m) c.in-Some.is c.in_ok-found-in-Ok.ensures.note)

pub returns-in-Err-Refused-clause-note : goal.returns-in-Err-Refused-clause-note
returns-in-Err-Refused-clause-note c =
    let same = rw c.in-Err-Refused.field-0-is at c.refused-refusal.ensures.note in
    note_of_shape (rule_view c.refused-refusal.result.rule) (view c.args.value.now) (note_text c.refused-refusal.result.note) (note_text c.in-Err-Refused.note) c.refused-refusal.ensures.rule
    same (subst (IsShapeNoted (view c.args.value.now)) c.in-Err-Refused.field-0-is c.in-Err-Refused.ensures.note)
