use Rattle.v_operators.proofs.Forms.{or_made}
use Rattle.v_operators.proofs.words.disjunction.Goals as goal

pub returns-clause-made : goal.returns-clause-made
returns-clause-made c = or_made c.args.terms.now c.put.new.terms c.in_ok-id.id.0 c.args.left.0 c.args.right.0 c.args.width c.requires.left c.requires.right c.in_ok-id.ensures.below c.in_ok-id.ensures.tree
