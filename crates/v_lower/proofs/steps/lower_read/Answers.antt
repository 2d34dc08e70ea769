use Rattle.v_lower.proofs.Stepping.{read_lowered}
use Rattle.v_lower.proofs.steps.lower_read.Goals as goal

pub returns-clause-lowered : goal.returns-clause-lowered
returns-clause-lowered c s im n x known r =
    read_lowered s im c.args.terms.now c.widened.new.terms n x c.args.read.width c.args.width c.args.read.id.0 c.in_ok-id.id.0 c.args.signed c.in_ok-id.ensures.grows known r c.in_ok-id.ensures.made
