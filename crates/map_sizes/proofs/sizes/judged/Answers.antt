use Rattle.std.proofs.Common.{◌∙◌, ap}
use Rattle.verilog_rules.specs.Expression.{anywhere, broken}
use Rattle.v_value.specs.Scope.{scope_at}
use Rattle.v_syntax.specs.Tree.{tree_of}
use Rattle.map_sizes.specs.Kinds.{has_kind}
use Rattle.map_sizes.proofs.Told.{kind_told}
use Rattle.map_sizes.proofs.sizes.judged.Goals as goal

pub returns-clause-refused : goal.returns-clause-refused
returns-clause-refused c =
    c.has_kind.ensures ∙ (ap has_kind c.judged_in-width.ensures.broken
    ∙ kind_told (broken (scope_at c.args.names.scope.now) anywhere (tree_of c.args.expression.now)))
