use Rattle.std.proofs.Common.{subst, [], ◌∷◌}
use Rattle.std.specs.Prelude.{IfOk}
use Rattle.ila_model.specs.Model.{model_of}
use Rattle.v_syntax.specs.Source.{source_of}
use Rattle.map_files.specs.Meaning.{BadExpression, WidthMismatch, MapUsesInput}
use Rattle.map_file.specs.View.{map_view}
use Rattle.map_rules.specs.Accepted.{case_of}
use Rattle.map_reading.specs.Judged.{IsPassed}
use Rattle.map_reading.proofs.reading.trees_passed.Goals as goal

pub returns-in-Ok : goal.returns-in-Ok
returns-in-Ok c =
    subst
    (λ t. IfOk t
    (λ r.
    IsPassed (case_of (map_view c.args.tokens.now.map.now) (model_of c.args.model.now) (source_of c.args.tree.now)) (BadExpression ∷ WidthMismatch ∷ MapUsesInput ∷ []) r))
    c.in-Ok.is c.told_of_expressions.ensures
