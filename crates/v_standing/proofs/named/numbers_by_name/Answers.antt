use Rattle.std.proofs.Common.{◌+◌, arith, ap}
use Rattle.v_standing.proofs.Tables.{turn, all_put}
use Rattle.v_standing.proofs.named.numbers_by_name.Goals as goal

pub loop-each-preserved : goal.loop-each-preserved
loop-each-preserved c = (
  ap (λ k. k + 1) c.loop-each.invariant.0,
  λ q. turn c.args.modules.now c.loop-each.each-index c.loop-each.number c.each-item.result _ _ _ q (omega arith) c.each-item.is c.loop-each.invariant.0 (c.in_ok-put.ensures q) (c.loop-each.invariant.1 q),
)

pub returns : goal.returns
returns c = λ q. all_put c.args.modules.now c.loop-each.each-index _ _ q (omega arith) (c.loop-each.invariant.1 q)
