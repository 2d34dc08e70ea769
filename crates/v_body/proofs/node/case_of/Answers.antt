use Rattle.v_body.proofs.Trees.{statement_of-Case}
use Rattle.v_body.proofs.Flat.{flat-Case}
use Rattle.v_body.proofs.node.case_of.Goals as goal

pub returns : goal.returns
returns c = record { flat = λ e h. flat-Case c.args.kind c.args.subject c.args.items e h; no_if = tt; made = statement_of-Case c.args.kind c.args.subject c.args.items }
