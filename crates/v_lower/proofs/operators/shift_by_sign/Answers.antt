use Rattle.v_lower.proofs.Lowering.{signed_shift, unsigned_shift}
use Rattle.v_lower.proofs.operators.shift_by_sign.Goals as goal

pub returns-then-signed-clause-made : goal.returns-then-signed-clause-made
returns-then-signed-clause-made c =
    signed_shift c.args.terms.now c.shifted_right_signed.new.terms c.args.operand.0 c.args.width c.args.count.0 c.args.count_width c.in_ok-id.id.0 c.args.signed c.if-signed.true c.in_ok-id.ensures.made

pub returns-clause-made : goal.returns-clause-made
returns-clause-made c =
    unsigned_shift c.args.terms.now c.shifted_right.new.terms c.args.operand.0 c.args.width c.args.count.0 c.args.count_width c.in_ok-id-2.id.0 c.args.signed c.if-signed.false c.in_ok-id-2.ensures.made
