use Rattle.v_lower.proofs.Lowering.{xnor_made}
use Rattle.v_lower.proofs.operators.equivalence.Goals as goal

pub returns-clause-made : goal.returns-clause-made
returns-clause-made c =
    xnor_made c.args.terms.now c.exclusive_or.new.terms c.complement.new.terms c.args.left.0 c.args.right.0 c.args.width c.in_ok-differing.differing.0 c.in_ok-id.id.0 c.in_ok-differing.ensures.made c.in_ok-id.ensures.made
