use Rattle.std.proofs.Common.{ap}
use Rattle.verilog_trees.specs.Syntax.{name, one, index}
use Rattle.v_syntax.specs.Tree.{tree_of}
use Rattle.emitted_trees.proofs.expressions.word_at.Goals as goal

pub returns : goal.returns
returns c = ap (λ e. name c.args.name.now (one (index (tree_of e)))) c.in_ok-index.ensures.ok
