use Rattle.std.proofs.Common.{ap}
use Rattle.term_expressions.specs.Expressions.{sized}
use Rattle.emitted_trees.proofs.expressions.sized.Goals as goal

pub returns : goal.returns
returns c = ap (λ w. sized w c.args.value) c.from.ensures
