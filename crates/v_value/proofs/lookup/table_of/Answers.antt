use Rattle.std.proofs.Common.{arith}
use Rattle.v_value.proofs.Objects.{turn}
use Rattle.v_value.proofs.lookup.table_of.Goals as goal

pub loop-each-preserved : goal.loop-each-preserved
loop-each-preserved c = λ q.
    turn c.args.declarations.now c.loop-each.each-index _ _ _ _ q (omega arith) (c.in_ok-declare.ensures q) (c.loop-each.invariant q)
