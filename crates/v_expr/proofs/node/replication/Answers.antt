use Rattle.v_syntax.proofs.Trees.{tree_of-Replication}
use Rattle.v_expr.proofs.Flat.{flat-Replication}
use Rattle.v_expr.proofs.node.replication.Goals as goal

pub returns : goal.returns
returns c = record { made = tree_of-Replication c.args.count c.args.parts; flat = λ f h. flat-Replication c.args.count c.args.parts f h }
