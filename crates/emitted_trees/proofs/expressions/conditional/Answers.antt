use Rattle.std.proofs.Common.{◌∙◌}
use Rattle.v_syntax.specs.Tree.{tree_of}
use Rattle.emitted_trees.proofs.expressions.conditional.Goals as goal

pub returns : goal.returns
returns c = c.in_ok-made.ensures.made ∙ c.in_ok-choices.ensures (tree_of c.args.other)
