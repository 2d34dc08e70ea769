use Rattle.v_operators.proofs.Spreading.{extract_made}
use Rattle.v_operators.proofs.parts.part.Goals as goal

pub returns-clause-made : goal.returns-clause-made
returns-clause-made c =
    extract_made c.args.terms.now c.put.new.terms c.in_ok-id.id.0 c.args.operand.0 c.args.width c.args.high c.args.low c.requires.operand c.requires.order c.requires.within
    c.in_ok-id.ensures.below c.in_ok-id.ensures.tree
