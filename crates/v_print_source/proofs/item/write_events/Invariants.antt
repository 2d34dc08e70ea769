use Rattle.std.proofs.Common.{false}
use Rattle.v_print.proofs.Loops.{IsLoop}
use Rattle.v_print_source.proofs.Wholes.{events_front}
use Rattle.v_print_source.proofs.item.write_events.Given as goal

abbrev pub invariant-loop-event : goal.invariant-loop-event
invariant-loop-event l = IsLoop events_front l.events l.event-index l.started l.initial.out l.out (events_front false l.events)
