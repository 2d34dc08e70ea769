use Rattle.v_depend.proofs.Following.{rests-on-one}
use Rattle.v_depend.proofs.laws.rests_where_it_depends.Goals as goal

pub returns : goal.returns
returns c = rests-on-one
