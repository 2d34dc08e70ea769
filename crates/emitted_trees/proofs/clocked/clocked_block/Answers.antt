use Rattle.std.proofs.Common.{◌∙◌, ap}
use Rattle.verilog_trees.specs.Syntax.{always}
use Rattle.emitted_modules.specs.Rtl.{at_clock}
use Rattle.emitted_trees.proofs.clocked.clocked_block.Goals as goal

pub returns : goal.returns
returns c = c.in_ok-item.ensures ∙ ap (always at_clock) c.in_ok-statement.ensures
