use Rattle.v_lower.proofs.Decisions.{connected_lowered}
use Rattle.v_lower.proofs.deciding.lower_logical.Goals as goal

pub returns-clause-lowered : goal.returns-clause-lowered
returns-clause-lowered c s im x y t known l o =
    connected_lowered s im c.args.terms.now c.connected.new.terms c.bit.new.terms c.in_ok-said.ensures.grows c.in_ok-id.ensures.grows known c.args.operator c.requires.operator x y c.args.left_width c.args.right_width c.args.width t
    c.args.left.0 c.args.right.0 c.in_ok-said.said.0 c.in_ok-id.id.0 l o c.in_ok-said.ensures.made c.in_ok-id.ensures.made
