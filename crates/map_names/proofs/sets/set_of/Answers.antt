use Rattle.std.proofs.Common.{arith}
use Rattle.map_names.proofs.Outside.{set_turn}
use Rattle.map_names.proofs.sets.set_of.Goals as goal

pub loop-name-preserved : goal.loop-name-preserved
loop-name-preserved c = λ q. set_turn c.args.names.now c.loop-name.name-index _ c.loop-name.set c.insert.new.self _ q (omega arith) c.in_ok-insert.ensures.updates (c.loop-name.invariant q)
