use Rattle.std.proofs.Common.{◌∙◌, ap}
use Rattle.term_expressions.specs.Expressions.{plain}
use Rattle.v_syntax.specs.Tree.{tree_of}
use Rattle.emitted_trees.proofs.expressions.boxed.Goals as goal

pub returns : goal.returns
returns c = ap tree_of c.in_ok-new.ensures.ok ∙ c.plain.ensures ∙ ap plain c.from.ensures
