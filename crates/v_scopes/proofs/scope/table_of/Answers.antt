use Rattle.std.proofs.Common.{arith}
use Rattle.v_scopes.proofs.Joined.{row_turn, row_end}
use Rattle.v_scopes.proofs.scope.table_of.Goals as goal

pub loop-each-preserved : goal.loop-each-preserved
loop-each-preserved c = λ q.
    row_turn c.args.declared.now c.loop-each.each-index _ _ _ _ q (omega arith) (c.in_ok-declare.ensures q) (c.loop-each.invariant q)
