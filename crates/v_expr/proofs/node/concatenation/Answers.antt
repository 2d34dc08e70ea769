use Rattle.v_syntax.proofs.Trees.{tree_of-Concatenation}
use Rattle.v_expr.proofs.Flat.{flat-Concatenation}
use Rattle.v_expr.proofs.node.concatenation.Goals as goal

pub returns : goal.returns
returns c = record { made = tree_of-Concatenation c.args.parts; flat = λ h. flat-Concatenation c.args.parts h }
