use Rattle.std.proofs.Common.{arith}
use Rattle.v_hier.specs.Reading.{knows}
use Rattle.v_hier.proofs.Events.{event-more, event-stop}
use Rattle.v_hier.proofs.item.is_event_list_known.Goals as goal

pub returns-then-not-is_known : goal.returns-then-not-is_known
returns-then-not-is_known c =
    event-stop (knows c.args.names.now) c.args.events.now c.loop-event.event-index _ _ c.is_known.result (omega arith) c.is_known.ensures c.if-not-is_known.true c.loop-event.invariant

pub loop-event-preserved : goal.loop-event-preserved
loop-event-preserved c =
    event-more (knows c.args.names.now) c.args.events.now c.loop-event.event-index _ _ c.is_known.result (omega arith) c.is_known.ensures c.if-not-is_known.false c.loop-event.invariant
