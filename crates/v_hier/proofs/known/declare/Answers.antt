use Rattle.std.proofs.Common.{true}
use Rattle.v_hier.proofs.UnderNames.{has_more}
use Rattle.v_hier.proofs.Mentions.{read-declared}
use Rattle.v_hier.proofs.known.declare.Goals as goal

pub returns : goal.returns
returns c = read-declared c.args.names.now c.insert.new.self c.args.name.now (λ q. has_more c.args.names.now.before c.insert.new.self c.args.name true c.in_ok-insert.ensures.updates q)
