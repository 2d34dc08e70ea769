use Rattle.v_lower.proofs.Decisions.{replication_lowered}
use Rattle.v_lower.proofs.parts.lower_replication.Goals as goal

pub returns-clause-lowered : goal.returns-clause-lowered
returns-clause-lowered c s im k es known is_count m =
    replication_lowered s im c.args.terms.now c.copies.new.terms c.widened.new.terms k es c.args.count c.args.from c.args.to c.args.signed c.args.parts.0 c.in_ok-all.all.0 c.in_ok-id.id.0 c.in_ok-all.ensures.grows c.in_ok-id.ensures.grows known is_count m
    c.in_ok-all.ensures.made c.in_ok-id.ensures.made
