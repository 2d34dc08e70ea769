use Rattle.v_body.proofs.Trees.{statement_of-Block}
use Rattle.v_body.proofs.Flat.{flat-Block}
use Rattle.v_body.proofs.node.block_of.Goals as goal

pub returns : goal.returns
returns c = record { flat = λ h. flat-Block c.args.name c.args.statements h; no_if = tt; made = statement_of-Block c.args.name c.args.statements }
