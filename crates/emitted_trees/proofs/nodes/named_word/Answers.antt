use Rattle.std.proofs.Common.{◌∙◌, ap}
use Rattle.term_expressions.specs.Expressions.{word_at}
use Rattle.emitted_trees.proofs.nodes.named_word.Goals as goal

pub returns : goal.returns
returns c = c.in_ok-made.ensures ∙ ap (word_at c.args.name.now) c.operand.ensures
