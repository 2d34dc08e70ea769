use Rattle.std.proofs.Common.{ap}
use Rattle.verilog_trees.specs.Syntax.{nonblocking}
use Rattle.v_syntax.specs.declared.tree.Target.{Target}
use Rattle.v_syntax.specs.Tree.{tree_of, target_of}
use Rattle.emitted_trees.proofs.statements.takes.Goals as goal

pub returns : goal.returns
returns c = ap (λ (t : Target). nonblocking (target_of t) (tree_of c.args.value)) c.in_ok-target.ensures.ok
