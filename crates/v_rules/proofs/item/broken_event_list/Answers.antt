use Rattle.std.proofs.Common.{arith}
use Rattle.v_value.specs.Scope.{scope_at}
use Rattle.v_rules.proofs.Listed.{event-more}
use Rattle.v_rules.proofs.item.broken_event_list.Goals as goal

pub loop-event-preserved : goal.loop-event-preserved
loop-event-preserved c =
    event-more (scope_at c.args.names.scope.now) c.args.events.now c.loop-event.event-index _ _ c.loop-event.all c.broken_event.result c.also-all.result (omega arith) c.broken_event.ensures c.also-all.ensures c.loop-event.invariant
