use Rattle.v_lower.proofs.Lowering.{unsigned_lowered}
use Rattle.v_lower.proofs.operators.lower_unsigned.Goals as goal

pub returns-clause-lowered : goal.returns-clause-lowered
returns-clause-lowered c s im x known l =
    unsigned_lowered s im c.args.terms.now c.widened.new.terms c.in_ok-id.ensures.grows known x c.args.from c.args.to c.args.signed c.args.operand.0 c.in_ok-id.id.0 l c.in_ok-id.ensures.made
