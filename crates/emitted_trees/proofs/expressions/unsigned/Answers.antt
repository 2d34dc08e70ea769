use Rattle.std.proofs.Common.{ap}
use Rattle.verilog_trees.specs.Syntax.{as_unsigned}
use Rattle.v_syntax.specs.Tree.{tree_of}
use Rattle.emitted_trees.proofs.expressions.unsigned.Goals as goal

pub returns : goal.returns
returns c = ap (λ e. as_unsigned (tree_of e)) c.in_ok-operand.ensures.ok
