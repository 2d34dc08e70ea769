use Rattle.wb_laws.proofs.Prefixes.{under_reset}
use Rattle.wb_laws.proofs.laws.a_run_shorter_than_the_reset_refines.Goals as goal

pub returns : goal.returns
returns c = under_reset
