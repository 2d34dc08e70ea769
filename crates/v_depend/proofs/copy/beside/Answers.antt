use Rattle.v_depend.proofs.Shifts.{beside}
use Rattle.v_depend.proofs.copy.beside.Goals as goal

pub returns : goal.returns
returns c = λ j l. beside c.args.high c.args.low c.mask.result c.args.width j c.mask.ensures l
