use Rattle.std.proofs.Common.{◌∙◌}
use Rattle.v_syntax.specs.Tree.{tested}
use Rattle.emitted_names.proofs.Turns.{ap2}
use Rattle.emitted_trees.proofs.nodes.tested_terms.Goals as goal

pub returns : goal.returns
returns c = c.in_ok-made.ensures.made ∙ ap2 (tested c.args.operator) c.operand.ensures c.operand-2.ensures
