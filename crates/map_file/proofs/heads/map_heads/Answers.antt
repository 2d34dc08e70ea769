use Rattle.std.proofs.lemmas.Result.{err_from_is_err_and}
use Rattle.model_files.specs.Shape.{document}
use Rattle.map_file.proofs.heads.map_heads.Goals as goal

pub returns-in_err-value-clause-note : goal.returns-in_err-value-clause-note
returns-in_err-value-clause-note c =
    let p = err_from_is_err_and c.from_residual.result c.from_residual.ensures.1 in
    rw (p.1, p.2) (c.in_err-value.ensures.note (document c.args.bytes.now))
