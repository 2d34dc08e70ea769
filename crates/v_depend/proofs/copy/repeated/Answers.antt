use Rattle.v_depend.proofs.Copied.{copied-turn}
use Rattle.v_depend.proofs.copy.repeated.Goals as goal

pub loop-place-preserved : goal.loop-place-preserved
loop-place-preserved c = λ j. copied-turn c.args.mask c.args.width c.loop-place.place c.loop-place.all c.with_bit-all.result j _ c.has_bit.ensures (c.with_bit-all.ensures j) (c.loop-place.invariant j)
