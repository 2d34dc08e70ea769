use Rattle.std.proofs.lemmas.Result.{err_from_is_err_and}
use Rattle.serde_json.specs.View.{view}
use Rattle.model_files.specs.Shape.{document}
use Rattle.ila_json.proofs.Notes.{noted_of}
use Rattle.ila_json.proofs.reading.read_model.Goals as goal

pub returns-in_err-value-clause-note : goal.returns-in_err-value-clause-note
returns-in_err-value-clause-note c =
    let p = err_from_is_err_and c.from_residual.result c.from_residual.ensures.1 in
    rw (p.1, p.2) (c.in_err-value.ensures.note (document c.args.bytes.now))

pub returns-in_err-written-clause-note : goal.returns-in_err-written-clause-note
returns-in_err-written-clause-note c =
    let p = err_from_is_err_and c.from_residual-in_err-written.result c.from_residual-in_err-written.ensures.1 in
    rw (p.1, p.2) (noted_of (view c.in_ok-value.value) (document c.args.bytes.now) _ c.in_ok-value.ensures.document c.in_err-written.ensures.note)
