use Rattle.std.proofs.Common.{◌∙◌, ap}
use Rattle.v_syntax.specs.Tree.{prefixed}
use Rattle.emitted_trees.proofs.nodes.prefixed_term.Goals as goal

pub returns : goal.returns
returns c = c.in_ok-made.ensures ∙ ap (prefixed c.args.operator) c.operand.ensures
