use Rattle.v_lower.proofs.Parity.{one_bit_made}
use Rattle.v_lower.proofs.reducing.one_bit.Goals as goal

pub returns-clause-made : goal.returns-clause-made
returns-clause-made c = one_bit_made c.args.terms.now c.part.new.terms c.args.operand.0 c.args.width c.in_ok-id.id.0 c.args.place c.in_ok-id.ensures.made
