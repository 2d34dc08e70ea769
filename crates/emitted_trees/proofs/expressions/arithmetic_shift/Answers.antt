use Rattle.std.proofs.Common.{◌∙◌, ap}
use Rattle.verilog_trees.specs.Syntax.{as_unsigned, shift, arithmetic_right}
use Rattle.v_syntax.specs.Tree.{tree_of}
use Rattle.emitted_trees.proofs.expressions.arithmetic_shift.Goals as goal

pub returns : goal.returns
returns c =
    c.in_ok-made.ensures ∙ ap as_unsigned (c.in_ok-shifted.ensures.made ∙ ap (λ x. shift arithmetic_right x (tree_of c.args.count)) c.in_ok-left.ensures)
