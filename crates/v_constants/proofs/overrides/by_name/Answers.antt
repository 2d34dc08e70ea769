use Rattle.std.proofs.Common.{arith}
use Rattle.v_value.specs.Scope.{scope_at}
use Rattle.v_constants.proofs.Gathered.{begun, ended, gathered_by, named_turn, named_end}
use Rattle.v_constants.proofs.overrides.by_name.Goals as goal

pub loop-each-init : goal.loop-each-init
loop-each-init c = begun c.new-met.result _ _ c.new-met.ensures.empty c.new-list.ensures.items

pub loop-each-preserved : goal.loop-each-preserved
loop-each-preserved c =
    c.in_ok-add.ensures _ _
    (gathered_by _ _ _ _ _ (named_turn (scope_at c.args.around.scope.now) c.args.connections.now c.loop-each.each-index c.each-item.result (omega arith) c.each-item.is) c.loop-each.invariant)

pub returns : goal.returns
returns c = ended _ _ _ _ (named_end (scope_at c.args.around.scope.now) c.args.connections.now c.loop-each.each-index (omega arith)) c.loop-each.invariant
