use Rattle.std.proofs.Common.{arith}
use Rattle.v_clocks.proofs.Walks.{give_turn}
use Rattle.v_clocks.proofs.nets.ports_given.Goals as goal

pub loop-each-preserved : goal.loop-each-preserved
loop-each-preserved c = λ q. give_turn c.args.uses.now c.loop-each.each-index _ _ _ _ q (omega arith) (c.loop-each.invariant q) (c.in_ok-give.ensures q)
