use Rattle.v_bits.proofs.Places.{down_made}
use Rattle.v_bits.proofs.bits.moved_down.Goals as goal

pub returns-clause-made : goal.returns-clause-made
returns-clause-made c =
    down_made c.args.terms.now c.part.new.terms c.resized.new.terms c.args.operand.0 c.args.width c.in_ok-high.high.0 c.in_ok-id.id.0 c.args.places c.args.count c.requires.fewer c.in_ok-high.ensures.made c.in_ok-id.ensures.made
