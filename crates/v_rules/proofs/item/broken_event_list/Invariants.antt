use Rattle.std.proofs.Common.{◌≡◌, drop, map}
use Rattle.v_value.specs.Scope.{scope_at}
use Rattle.v_rules.specs.Judging.{none}
use Rattle.v_syntax.specs.declared.module.Event.{Event}
use Rattle.v_syntax.specs.Source.{edge_of}
use Rattle.v_rules.specs.Items.{event_list_from}
use Rattle.v_rules.proofs.item.broken_event_list.Given as goal

abbrev pub invariant-loop-event : goal.invariant-loop-event
invariant-loop-event l = event_list_from (scope_at l.names.scope.now) none (map (λ (e : Event). record { edge = edge_of e.edge; signal = e.signal.now }) l.events) ≡ event_list_from (scope_at l.names.scope.now) l.all (map (λ (e : Event). record { edge = edge_of e.edge; signal = e.signal.now }) (drop l.event-index l.events))
