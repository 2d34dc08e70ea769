use Rattle.v_paths.proofs.Labels.{small-power}
use Rattle.v_paths.proofs.full.count_of.Goals as goal

pub returns : goal.returns
returns c = small-power c.args.width c.requires
