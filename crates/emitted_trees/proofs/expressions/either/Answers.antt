use Rattle.emitted_trees.proofs.expressions.either.Goals as goal

pub returns : goal.returns
returns c = c.in_ok-made.ensures.made
