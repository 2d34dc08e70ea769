use Rattle.v_body.proofs.Trees.{statement_of-Alone}
use Rattle.v_body.proofs.Flat.{flat-Alone}
use Rattle.v_body.proofs.node.alone.Goals as goal

pub returns : goal.returns
returns c = record { made = statement_of-Alone c.args.arms; flat = λ some arms. flat-Alone c.args.arms some arms }
