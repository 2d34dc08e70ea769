use Rattle.std.proofs.Common.{true}
use Rattle.v_registers.proofs.FirstNames.{has_more}
use Rattle.v_registers.proofs.once.add_first.Goals as goal

pub returns-clause-seen : goal.returns-clause-seen
returns-clause-seen c = λ q. has_more c.args.seen.now c.insert.new.self c.args.name true c.in_ok-insert.ensures.updates q
