use Rattle.ila_rules.proofs.Frames.{more_in}
use Rattle.ila_rules.proofs.walk.add_definition.Goals as goal

pub returns-clause-look : goal.returns-clause-look
returns-clause-look c =
    more_in c.args.frames.now c.args.frame.now c.declare.new.self c.args.definition.now.name.now _ _ c.in_ok-declare.ensures.look c.in_ok-seen.ensures.brief
