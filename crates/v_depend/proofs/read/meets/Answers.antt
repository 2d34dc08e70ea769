use Rattle.v_depend.proofs.Meeting.{meeting}
use Rattle.v_depend.proofs.read.meets.Goals as goal

pub returns : goal.returns
returns c = meeting c.args.table.now c.args.spans.now _ c.one_meets.ensures
