use Rattle.std.proofs.Common.{◌∙◌}
use Rattle.v_value.specs.Scope.{scope_at}
use Rattle.v_syntax.specs.Tree.{tree_of}
use Rattle.v_constants.proofs.Judged.{given_so}
use Rattle.v_constants.proofs.overrides.override_by.Goals as goal

pub returns-clause-value : goal.returns-clause-value
returns-clause-value c = c.parameter.ensures.value ∙ given_so (scope_at c.args.around.scope.now) (tree_of c.args.value.now)
