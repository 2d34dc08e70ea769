use Rattle.std.proofs.Common.{◌∙◌, ap}
use Rattle.verilog_trees.specs.Syntax.{as_signed}
use Rattle.emitted_trees.proofs.nodes.signed_term.Goals as goal

pub returns : goal.returns
returns c = c.in_ok-made.ensures ∙ ap as_signed c.operand.ensures
