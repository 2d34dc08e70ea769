use Rattle.v_lower.proofs.Decisions.{concatenation_lowered}
use Rattle.v_lower.proofs.parts.lower_concatenation.Goals as goal

pub returns-clause-lowered : goal.returns-clause-lowered
returns-clause-lowered c s im es known m =
    concatenation_lowered s im c.args.terms.now c.widened.new.terms es c.args.from c.args.to c.args.signed c.args.parts.0 c.in_ok-id.id.0 c.in_ok-id.ensures.grows known m c.in_ok-id.ensures.made
