use Rattle.v_syntax.specs.Tree.{tree_of}
use Rattle.v_hier.specs.Tables.{has_name}
use Rattle.v_clocks.proofs.Listed.{mentioned_so}
use Rattle.v_clocks.proofs.expression.mentions.Goals as goal

pub returns : goal.returns
returns c = mentioned_so (has_name c.args.clocks.now) (tree_of c.args.expression.now) c.is_free.result c.is_free.ensures
