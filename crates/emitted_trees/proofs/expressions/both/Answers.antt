use Rattle.emitted_trees.proofs.expressions.both.Goals as goal

pub returns : goal.returns
returns c = c.in_ok-made.ensures.made
