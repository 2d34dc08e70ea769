use Rattle.std.proofs.Common.{arith}
use Rattle.v_registers.proofs.WordMasks.{whole_turn}
use Rattle.v_registers.proofs.masks.all_whole_bits.Goals as goal

pub loop-span-preserved : goal.loop-span-preserved
loop-span-preserved c = λ b.
    whole_turn c.args.spans.now c.loop-span.span-index _ c.args.name.now c.args.count b c.loop-span.bits c.whole_bits-bits.result _ (omega arith) (c.whole_bits-bits.ensures b)
    (c.loop-span.invariant b)
