use Rattle.std.proofs.Common.{◌∙◌}
use Rattle.verilog_trees.specs.Syntax.{conditional}
use Rattle.emitted_names.proofs.Turns.{ap3}
use Rattle.emitted_trees.proofs.nodes.chosen_term.Goals as goal

pub returns : goal.returns
returns c = c.in_ok-made.ensures ∙ ap3 conditional c.operand.ensures c.operand-2.ensures c.operand-3.ensures
