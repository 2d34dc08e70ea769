use Rattle.verilog_trees.specs.Syntax.{name, one, part}
use Rattle.emitted_names.proofs.Turns.{ap2}
use Rattle.emitted_trees.proofs.expressions.bits.Goals as goal

pub returns : goal.returns
returns c = ap2 (λ l r. name c.args.name.now (one (part l r))) c.in_ok-left.ensures c.in_ok-right.ensures
