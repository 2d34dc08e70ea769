use Rattle.v_depend.proofs.Shifts.{bit-wanted}
use Rattle.v_depend.proofs.copy.with_bit.Goals as goal

pub returns-then-wanted : goal.returns-then-wanted
returns-then-wanted c = λ j. bit-wanted c.args.mask c.args.place j c.args.wanted c.if-wanted.true c.requires
