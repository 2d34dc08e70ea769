use Rattle.std.proofs.Common.{◌∙◌}
use Rattle.verilog_trees.specs.Syntax.{binary, bitwise_and}
use Rattle.emitted_names.proofs.Turns.{ap2}
use Rattle.emitted_trees.proofs.decoding.ready.Goals as goal

pub returns : goal.returns
returns c = c.in_ok-made.ensures ∙ ap2 (binary bitwise_and) c.whole-2.ensures (c.in_ok-inner.ensures ∙ ap2 (binary bitwise_and) c.operand.ensures c.whole.ensures)
