use Rattle.std.proofs.Common.{ap}
use Rattle.v_syntax.specs.Chain.{chosen}
use Rattle.emitted_trees.proofs.expressions.one_choice.Goals as goal

pub returns : goal.returns
returns c = λ y. ap (λ cs. chosen cs y) c.in_ok-choices.ensures
