use Rattle.v_lower.proofs.Stepping.{bit_lowered}
use Rattle.v_lower.proofs.steps.lower_bit.Goals as goal

pub returns-clause-lowered : goal.returns-clause-lowered
returns-clause-lowered c s im e t known b =
    bit_lowered s im c.args.terms.now c.widened.new.terms e c.args.width c.args.said.0 c.in_ok-id.id.0 t c.in_ok-id.ensures.grows known b c.in_ok-id.ensures.made
