use Rattle.ila_rules.specs.View.{brief_view}
use Rattle.ila_rules.proofs.Frames.{put_under}
use Rattle.ila_rules.proofs.scope.Frame.declare.Goals as goal

pub returns-clause-look : goal.returns-clause-look
returns-clause-look c = λ i q. put_under brief_view c.args.self.now.names c.insert.new.self c.args.name c.args.seen c.in_ok-insert.ensures.updates q i
