use Rattle.emitted_trees.proofs.Rows.{block_is}
use Rattle.emitted_trees.proofs.statements.in_block.Goals as goal

pub returns : goal.returns
returns c = block_is c.args.statements
