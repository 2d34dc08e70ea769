use Rattle.v_operators.proofs.Growing.{Grows-refl}
use Rattle.v_operators.proofs.Forms.{widened_signed, widened_unsigned}
use Rattle.v_operators.proofs.words.widened.Goals as goal

pub returns-then-signed-clause-made : goal.returns-then-signed-clause-made
returns-then-signed-clause-made c =
    widened_signed c.args.terms.now c.put.new.terms c.in_ok-id.id.0 c.args.operand.0 c.args.from c.args.to c.args.signed c.if-signed.true c.requires.operand c.requires.wider c.requires.at_most_128
    c.in_ok-id.ensures.below c.in_ok-id.ensures.tree

pub returns-clause-made : goal.returns-clause-made
returns-clause-made c =
    widened_unsigned c.args.terms.now c.put-2.new.terms c.in_ok-id-2.id.0 c.args.operand.0 c.args.from c.args.to c.args.signed c.if-signed.false c.requires.operand c.requires.wider c.requires.at_most_128
    c.in_ok-id-2.ensures.below c.in_ok-id-2.ensures.tree

pub returns-then-from-to-clause-grows : goal.returns-then-from-to-clause-grows
returns-then-from-to-clause-grows c = Grows-refl c.args.terms.now
