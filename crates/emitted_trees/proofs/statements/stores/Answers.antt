use Rattle.std.proofs.Common.{◌∙◌, ap}
use Rattle.verilog_trees.specs.Syntax.{nonblocking}
use Rattle.v_syntax.specs.declared.tree.Target.{Target}
use Rattle.v_syntax.specs.Tree.{tree_of, target_of}
use Rattle.emitted_trees.specs.Items.{stored}
use Rattle.emitted_trees.proofs.statements.stores.Goals as goal

pub returns : goal.returns
returns c =
    ap (λ (t : Target). nonblocking (target_of t) (tree_of c.args.value)) c.in_ok-target.ensures.ok
    ∙ ap (λ e. stored c.args.name.now (tree_of e) (tree_of c.args.value)) c.in_ok-index.ensures.ok
