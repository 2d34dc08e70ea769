use Rattle.std.proofs.Common.{◌∙◌}
use Rattle.sat_gates.proofs.OtherBits.{negative_word}
use Rattle.sat_gates.proofs.blasting.negative.Goals as goal

pub returns-clause-word : goal.returns-clause-word
returns-clause-word c = negative_word c.chained.new.circuit _ c.args.xs.now c.in_ok-chain.chain.bits.items c.in_ok-chain.chain.carry (c.as_slice.ensures.value ∙ c.in_ok-zero.ensures) c.in_ok-chain.ensures.chain
