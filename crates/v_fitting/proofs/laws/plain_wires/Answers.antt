use Rattle.v_fitting.proofs.Wires.{wires-plain}
use Rattle.v_fitting.proofs.laws.plain_wires.Goals as goal

pub returns : goal.returns
returns c = wires-plain
