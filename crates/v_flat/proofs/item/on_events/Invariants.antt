use Rattle.std.proofs.Common.{◌≡◌, ◌++◌, map, drop}
use Rattle.v_renamed.specs.NewNames.{new_name}
use Rattle.v_flat.specs.Items.{renamed_event}
use Rattle.v_flat.specs.Views.{event_of}
use Rattle.v_flat.proofs.item.on_events.Given as goal

abbrev pub invariant-loop-event : goal.invariant-loop-event
invariant-loop-event l =
    map (renamed_event (new_name l.names)) (map event_of l.events)
    ≡ map event_of l.list.items ++ map (renamed_event (new_name l.names)) (map event_of (drop l.event-index l.events))
