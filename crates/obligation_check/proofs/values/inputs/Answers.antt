-- One cycle more.
use Rattle.obligation_check.proofs.Gathering.{cycle_more}
use Rattle.obligation_check.proofs.values.inputs.Goals as goal

pub loop-cycle-preserved : goal.loop-cycle-preserved
loop-cycle-preserved c =
    cycle_more c.args.values.now c.args.first c.args.count c.loop-cycle.cycle c.loop-cycle.next c.loop-cycle.list.items c.push.new.self.items c.in_ok-numbers.field-0
    c.in_ok-push.ensures.items c.in_ok-numbers.ensures c.loop-cycle.invariant
