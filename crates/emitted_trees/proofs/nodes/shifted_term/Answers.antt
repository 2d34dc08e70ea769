use Rattle.std.proofs.Common.{◌∙◌}
use Rattle.term_expressions.specs.Expressions.{arithmetic_shift}
use Rattle.emitted_names.proofs.Turns.{ap2}
use Rattle.emitted_trees.proofs.nodes.shifted_term.Goals as goal

pub returns : goal.returns
returns c = c.in_ok-made.ensures ∙ ap2 arithmetic_shift c.operand.ensures c.operand-2.ensures
