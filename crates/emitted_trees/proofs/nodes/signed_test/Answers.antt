use Rattle.std.proofs.Common.{◌∙◌, ap}
use Rattle.verilog_trees.specs.Syntax.{as_signed}
use Rattle.v_syntax.specs.Tree.{tested}
use Rattle.emitted_names.proofs.Turns.{ap2}
use Rattle.emitted_trees.proofs.nodes.signed_test.Goals as goal

pub returns : goal.returns
returns c =
    c.in_ok-made.ensures.made
    ∙ ap2 (tested c.args.operator) (c.in_ok-left.ensures ∙ ap as_signed c.operand.ensures) (c.in_ok-right.ensures ∙ ap as_signed c.operand-2.ensures)
