use Rattle.std.proofs.Common.{ap}
use Rattle.verilog_trees.specs.Syntax.{as_signed}
use Rattle.v_syntax.specs.Tree.{tree_of}
use Rattle.emitted_trees.proofs.expressions.signed.Goals as goal

pub returns : goal.returns
returns c = ap (λ e. as_signed (tree_of e)) c.in_ok-operand.ensures.ok
