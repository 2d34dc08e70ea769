use Rattle.std.proofs.Common.{◌∙◌}
use Rattle.gate_words.proofs.Moving.{positive}
use Rattle.gate_words.proofs.shifts.is_positive.Goals as goal

pub returns-clause-bit : goal.returns-clause-bit
returns-clause-bit c =
    positive c.chained.new.circuit c.as_slice.result.now c.args.xs.now c.in_ok-chain.chain.bits.items c.in_ok-chain.chain.carry
    (c.as_slice.ensures.value ∙ c.in_ok-zero.ensures) c.in_ok-chain.ensures.chain
