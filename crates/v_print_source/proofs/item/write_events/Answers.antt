use Rattle.std.proofs.Common.{true, false, refl}
use Rattle.v_print.proofs.Loops.{loop_begins, loop_ends}
use Rattle.v_print.proofs.Written.{then}
use Rattle.v_print_source.proofs.Wholes.{events_front}
use Rattle.v_print_source.proofs.Turns.{event_goes_on}
use Rattle.v_print_source.proofs.item.write_events.Goals as goal

pub loop-event-init : goal.loop-event-init
loop-event-init c = loop_begins events_front c.args.events.now false c.args.out.now

pub loop-event-preserved : goal.loop-event-preserved
loop-event-preserved c =
    event_goes_on c.args.events.now c.loop-event.event-index _ c.loop-event.started c.loop-event-test.true c.loop-event.invariant (then c.in_ok-write_or.ensures c.in_ok-write_event.ensures)

pub returns : goal.returns
returns c = loop_ends events_front c.args.events.now c.loop-event.event-index c.loop-event.started c.loop-event-test.false (λ r. refl) c.loop-event.invariant
