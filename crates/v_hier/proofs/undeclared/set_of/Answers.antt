use Rattle.std.proofs.Common.{arith}
use Rattle.v_hier.proofs.UnderNames.{set_turn}
use Rattle.v_hier.proofs.undeclared.set_of.Goals as goal

pub loop-entry-preserved : goal.loop-entry-preserved
loop-entry-preserved c = λ q. set_turn c.args.entries.now c.loop-entry.entry-index _ c.loop-entry.set c.insert.new.self _ q (omega arith) c.in_ok-insert.ensures.updates (c.loop-entry.invariant q)
