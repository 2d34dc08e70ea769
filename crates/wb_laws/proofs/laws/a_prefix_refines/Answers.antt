use Rattle.wb_laws.proofs.Prefixes.{prefix}
use Rattle.wb_laws.proofs.laws.a_prefix_refines.Goals as goal

pub returns : goal.returns
returns c = prefix
