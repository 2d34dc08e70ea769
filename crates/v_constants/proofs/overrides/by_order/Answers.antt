use Rattle.std.proofs.Common.{arith}
use Rattle.v_value.specs.Scope.{scope_at}
use Rattle.v_constants.proofs.Gathered.{begun, ended, gathered_by, first_left, second_left, order_turn, order_end}
use Rattle.v_constants.proofs.overrides.by_order.Goals as goal

pub loop-i-init : goal.loop-i-init
loop-i-init c = begun c.new-met.result _ _ c.new-met.ensures.empty c.new-list.ensures.items

pub loop-i-preserved : goal.loop-i-preserved
loop-i-preserved c =
    c.in_ok-add.ensures _ _
    (gathered_by _ _ _ _ _
    (order_turn (scope_at c.args.around.scope.now) c.args.values.now c.args.names.now c.loop-i.i c.index-values-i.result _ (first_left _ _ _ _ c.loop-i-test.true c.min-i-end.ensures) (second_left _ _ _ _ c.loop-i-test.true c.min-i-end.ensures) c.index-values-i.is)
    c.loop-i.invariant)

pub returns : goal.returns
returns c = ended _ _ _ _ (order_end (scope_at c.args.around.scope.now) c.args.values.now c.args.names.now c.loop-i.i (omega arith)) c.loop-i.invariant
