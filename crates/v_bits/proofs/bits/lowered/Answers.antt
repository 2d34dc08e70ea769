use Rattle.std.proofs.Common.{◌≤◌, arith}
use Rattle.v_operators.proofs.Testing.{at_most_128}
use Rattle.v_bits.proofs.Places.{down_past}
use Rattle.v_bits.proofs.bits.lowered.Goals as goal

pub small-requires : goal.small-requires
small-requires c =
    let l : c.args.width ≤ 128 = at_most_128 c.args.terms.now c.args.operand.0 c.args.width c.requires.operand in
    omega (arith, l, c.from.ensures, c.if-places-from.false)

pub returns-then-places-from-clause-made : goal.returns-then-places-from-clause-made
returns-then-places-from-clause-made c =
    down_past c.args.terms.now c.nothing.new.terms c.args.operand.0 c.args.width c.in_ok-id.id.0 c.args.places c.args.count (omega (arith, c.from.ensures, c.if-places-from.true)) c.in_ok-id.ensures.made
