use Rattle.v_lower.proofs.Wholes.{other_test}
use Rattle.v_lower.proofs.reducing.is_other.Goals as goal

pub returns-clause-made : goal.returns-clause-made
returns-clause-made c =
    other_test c.args.terms.now c.is_number.new.terms c.put.new.terms c.args.operand.0 c.args.width c.args.number c.in_ok-same.same.0 c.in_ok-id.id.0 c.in_ok-same.ensures.made c.in_ok-id.ensures.below c.in_ok-id.ensures.tree
