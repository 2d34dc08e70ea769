use Rattle.v_bits.proofs.Places.{cut_part, cut_wide}
use Rattle.v_bits.proofs.bits.resized.Goals as goal

pub returns-then-count-width-clause-made : goal.returns-then-count-width-clause-made
returns-then-count-width-clause-made c =
    cut_part c.args.terms.now c.part.new.terms c.args.operand.0 c.args.width c.in_ok-id.id.0 c.args.count c.requires.some_bits c.in_ok-id.ensures.made

pub returns-clause-made : goal.returns-clause-made
returns-clause-made c =
    cut_wide c.args.terms.now c.widened.new.terms c.args.operand.0 c.args.width c.in_ok-id-2.id.0 c.args.count c.if-count-width.false c.in_ok-id-2.ensures.made
