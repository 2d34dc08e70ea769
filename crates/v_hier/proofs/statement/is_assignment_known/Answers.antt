use Rattle.std.proofs.Common.{◌∙◌}
use Rattle.v_syntax.specs.Tree.{tree_of, target_of}
use Rattle.v_hier.specs.Reading.{knows}
use Rattle.v_hier.proofs.Statements.{assignment-known}
use Rattle.v_hier.proofs.statement.is_assignment_known.Goals as goal

pub returns : goal.returns
returns c =
    c.both.ensures
    ∙ assignment-known (knows c.args.names.now) (target_of c.args.target.now) (tree_of c.args.value.now) _ _ c.is_target_known.ensures c.is_expression_known.ensures
