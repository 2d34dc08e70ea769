use Rattle.std.proofs.Common.{◌∙◌, Vec, Global, ap}
use Rattle.emitted_names.specs.declared.ways.Way.{Way}
use Rattle.emitted_trees.proofs.Loops.{same_default}
use Rattle.emitted_trees.proofs.ways.ways_at.Goals as goal

pub returns : goal.returns
returns c = λ d. c.as_slice.ensures.value ∙ ap (λ (v : Vec Way Global). v.items) (c.index-rows-place.is ∙ same_default c.args.rows.now c.args.place _ d c.requires)
