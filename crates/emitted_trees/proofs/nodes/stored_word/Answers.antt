use Rattle.std.proofs.Common.{◌∙◌}
use Rattle.verilog_trees.specs.Syntax.{conditional}
use Rattle.v_syntax.specs.Tree.{tree_of}
use Rattle.emitted_names.proofs.Turns.{ap2}
use Rattle.emitted_trees.proofs.nodes.stored_word.Goals as goal

pub returns : goal.returns
returns c = c.in_ok-made.ensures ∙ ap2 (λ a b. conditional a b (tree_of c.args.rest)) c.in_ok-test.ensures c.operand.ensures
