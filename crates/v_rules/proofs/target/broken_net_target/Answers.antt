use Rattle.std.proofs.Common.{◌∙◌}
use Rattle.v_value.specs.Scope.{scope_at}
use Rattle.v_syntax.specs.Tree.{target_of}
use Rattle.v_size.specs.Rule.{position_of}
use Rattle.v_rules.proofs.Parts.{net-by}
use Rattle.v_rules.proofs.target.broken_net_target.Goals as goal

pub returns : goal.returns
returns c = c.in_net.ensures ∙ net-by (scope_at c.args.names.scope.now) (position_of c.args.position) (target_of c.args.target.now) c.judged_target.result c.judged_target.ensures
