use Rattle.v_lower.proofs.Decisions.{differ_made}
use Rattle.v_lower.proofs.deciding.differ.Goals as goal

pub returns-clause-made : goal.returns-clause-made
returns-clause-made c =
    differ_made c.args.terms.now c.is_equal.new.terms c.put.new.terms c.args.left.0 c.args.right.0 c.args.width c.in_ok-same.same.0 c.in_ok-id.id.0 c.in_ok-same.ensures.made c.in_ok-id.ensures.below c.in_ok-id.ensures.tree
