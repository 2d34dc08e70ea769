use Rattle.v_depend.proofs.Placing.{some-bits}
use Rattle.v_depend.proofs.part.has_bits.Goals as goal

pub returns : goal.returns
returns c = some-bits c.args.value c.mask.result c.args.count c.mask.ensures
