use Rattle.std.proofs.Common.{◌∙◌}
use Rattle.verilog_trees.specs.Syntax.{if_then}
use Rattle.emitted_names.proofs.Turns.{ap2}
use Rattle.emitted_trees.specs.Items.{stored}
use Rattle.emitted_trees.proofs.ways.guarded_store.Goals as goal

pub returns : goal.returns
returns c = c.in_ok-made.ensures ∙ ap2 if_then c.whole.ensures (c.in_ok-store.ensures ∙ ap2 (stored c.args.memory.now) c.operand.ensures c.operand-2.ensures)
