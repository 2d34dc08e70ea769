use Rattle.std.proofs.Common.{◌∙◌}
use Rattle.v_value.specs.Scope.{scope_at}
use Rattle.v_syntax.specs.Tree.{target_of}
use Rattle.v_rules.proofs.Parts.{block-by}
use Rattle.v_rules.proofs.target.broken_block_target.Goals as goal

pub returns : goal.returns
returns c = c.in_block.ensures ∙ block-by (scope_at c.args.names.scope.now) c.args.clocked (target_of c.args.target.now) c.judged_target.result c.judged_target.ensures
