use Rattle.std.proofs.Common.{◌∙◌}
use Rattle.term_expressions.specs.Expressions.{pair_of}
use Rattle.emitted_names.proofs.Turns.{ap2}
use Rattle.emitted_trees.proofs.nodes.paired_terms.Goals as goal

pub returns : goal.returns
returns c = c.in_ok-made.ensures ∙ ap2 pair_of c.operand.ensures c.operand-2.ensures
