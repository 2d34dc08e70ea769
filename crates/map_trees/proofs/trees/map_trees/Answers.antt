use Rattle.map_trees.proofs.trees.map_trees.Goals as goal

pub returns : goal.returns
returns c = λ m w h. c.told.ensures m w (c.all_trees.ensures m w h)
