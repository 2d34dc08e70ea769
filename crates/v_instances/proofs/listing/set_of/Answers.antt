use Rattle.std.proofs.Common.{arith}
use Rattle.v_instances.proofs.Names.{set_turn}
use Rattle.v_instances.proofs.listing.set_of.Goals as goal

pub loop-name-preserved : goal.loop-name-preserved
loop-name-preserved c = λ q. set_turn c.args.names.now c.loop-name.name-index _ c.loop-name.set c.insert.new.self _ q (omega arith) c.in_ok-insert.ensures.updates (c.loop-name.invariant q)
