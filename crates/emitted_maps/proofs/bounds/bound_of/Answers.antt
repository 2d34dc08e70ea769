use Rattle.ila_model.specs.Scope.{nesting}
use Rattle.emitted_maps.proofs.bounds.bound_of.Goals as goal

pub returns : goal.returns
unfolding nesting
returns c = c.child_bound.ensures.value
