use Rattle.v_lower.proofs.Wholes.{reduced_lowered}
use Rattle.v_lower.proofs.reducing.lower_reduction.Goals as goal

pub returns-clause-lowered : goal.returns-clause-lowered
returns-clause-lowered c s im x t known l =
    reduced_lowered s im c.args.terms.now c.reduced.new.terms c.bit.new.terms c.in_ok-said.ensures.grows c.in_ok-id.ensures.grows known c.args.operator c.requires.operator x c.args.own c.args.width t
    c.args.operand.0 c.in_ok-said.said.0 c.in_ok-id.id.0 l c.in_ok-said.ensures.made c.in_ok-id.ensures.made
