use Rattle.std.proofs.Common.{◌∙◌, ap}
use Rattle.term_expressions.specs.Expressions.{word_at}
use Rattle.emitted_trees.specs.Items.{stored}
use Rattle.emitted_names.proofs.Turns.{ap2}
use Rattle.emitted_trees.proofs.resets.kept_word.Goals as goal

pub returns : goal.returns
returns c =
    c.in_ok-made.ensures ∙ ap2 (stored c.args.name.now) c.whole-2.ensures (c.in_ok-value.ensures ∙ ap (word_at c.args.name.now) c.whole.ensures)
