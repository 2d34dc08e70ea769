use Rattle.v_operators.proofs.Growing.{cut_back}
use Rattle.v_lower.proofs.expression.lower_sound.Goals as goal

pub returns-in-Ok : goal.returns-in-Ok
returns-in-Ok c = (c.lower_in.ensures.grows, c.in-Ok.ensures.lowered)

pub returns-in-Err : goal.returns-in-Err
returns-in-Err c = cut_back c.args.terms.now c.lower_in.new.terms c.cut.new.self c.len-before.result c.lower_in.ensures.grows c.len-before.ensures.terms c.cut.ensures.nodes
