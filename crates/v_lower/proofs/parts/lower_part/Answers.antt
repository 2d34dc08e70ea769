use Rattle.v_lower.proofs.Decisions.{next_part}
use Rattle.v_lower.proofs.parts.lower_part.Goals as goal

pub returns-clause-lowered : goal.returns-clause-lowered
returns-clause-lowered c s im es e known m l =
    next_part s im c.args.terms.now c.beside.new.terms es e c.args.parts_width c.args.part_width c.args.parts.0 c.args.part.0 c.in_ok-id.id.0 c.in_ok-id.ensures.grows known m l c.in_ok-id.ensures.made
