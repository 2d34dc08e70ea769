use Rattle.std.proofs.Common.{◌≡◌, drop, map}
use Rattle.v_syntax.specs.declared.module.Event.{Event}
use Rattle.v_syntax.specs.Source.{edge_of}
use Rattle.v_hier.specs.Reading.{knows, event_list_known}
use Rattle.v_hier.proofs.item.is_event_list_known.Given as goal

abbrev pub invariant-loop-event : goal.invariant-loop-event
invariant-loop-event l = event_list_known (knows l.names) (map (λ (e : Event). record { edge = edge_of e.edge; signal = e.signal.now }) l.events) ≡ event_list_known (knows l.names) (map (λ (e : Event). record { edge = edge_of e.edge; signal = e.signal.now }) (drop l.event-index l.events))
