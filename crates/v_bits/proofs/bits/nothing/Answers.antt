use Rattle.v_bits.proofs.Places.{nothing_made}
use Rattle.v_bits.proofs.bits.nothing.Goals as goal

pub returns-clause-made : goal.returns-clause-made
returns-clause-made c = nothing_made c.args.terms.now c.constant.new.terms c.args._operand.0 c.args._width c.in_ok-id.id.0 c.args.count c.in_ok-id.ensures.of_sort c.in_ok-id.ensures.value
