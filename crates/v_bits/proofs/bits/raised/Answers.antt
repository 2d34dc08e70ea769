use Rattle.std.proofs.Common.{arith}
use Rattle.v_bits.proofs.Places.{up_past}
use Rattle.v_bits.proofs.bits.raised.Goals as goal

pub returns-then-places-from-clause-made : goal.returns-then-places-from-clause-made
returns-then-places-from-clause-made c =
    up_past c.args.terms.now c.nothing.new.terms c.args.operand.0 c.args.width c.in_ok-id-2.id.0 c.args.places c.args.count (omega (arith, c.from.ensures, c.if-places-from.true)) c.in_ok-id-2.ensures.made
