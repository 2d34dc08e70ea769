use Rattle.std.proofs.Common.{◌∙◌, ap}
use Rattle.verilog_trees.specs.Syntax.{conditional}
use Rattle.v_syntax.specs.Tree.{tree_of}
use Rattle.emitted_trees.proofs.nodes.chosen_word.Goals as goal

pub returns : goal.returns
returns c = c.in_ok-made.ensures ∙ ap (λ a. conditional a (tree_of c.args.first) (tree_of c.args.second)) c.operand.ensures
