use Rattle.v_lower.proofs.Decisions.{compared_lowered}
use Rattle.v_lower.proofs.deciding.lower_comparison.Goals as goal

pub returns-clause-lowered : goal.returns-clause-lowered
returns-clause-lowered c s im x y t known is_own is_sign l o =
    compared_lowered s im c.args.terms.now c.compared.new.terms c.bit.new.terms c.in_ok-said.ensures.grows c.in_ok-id.ensures.grows known c.args.operator c.requires.operator x y c.args.own c.args.width c.args.signed t
    c.args.left.0 c.args.right.0 c.in_ok-said.said.0 c.in_ok-id.id.0 is_own is_sign l o c.in_ok-said.ensures.made c.in_ok-id.ensures.made
