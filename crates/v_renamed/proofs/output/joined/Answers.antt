use Rattle.v_renamed.proofs.Outputs.{joined_some}
use Rattle.v_renamed.proofs.output.joined.Goals as goal

pub returns-in-Some : goal.returns-in-Some
returns-in-Some c = joined_some c.args.targets c.in-Some.targets c.in-Some.is
