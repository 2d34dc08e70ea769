use Rattle.v_lower.proofs.Parity.{parity_test}
use Rattle.v_lower.proofs.reducing.has_parity.Goals as goal

pub returns-clause-made : goal.returns-clause-made
returns-clause-made c =
    parity_test c.args.terms.now c.parity.new.terms c.is_number.new.terms c.args.operand.0 c.args.width c.in_ok-bit.bit.0 c.in_ok-id.id.0 c.args.odd c.in_ok-bit.ensures.made c.in_ok-id.ensures.made
