use Rattle.std.proofs.Common.{◌∙◌}
use Rattle.gate_words.proofs.Moving.{stage_end}
use Rattle.gate_words.proofs.shifts.stage.Goals as goal

pub returns-clause-stage : goal.returns-clause-stage
returns-clause-stage c =
    stage_end c.chained.new.circuit c.args.direction c.args.fill c.args.word.now c.as_slice.result.now c.in_ok-chain.chain.bits.items c.args.chosen
    c.in_ok-chain.chain.carry c.args.distance (c.as_slice.ensures.value ∙ c.in_ok-moved.ensures) c.in_ok-chain.ensures.chain
