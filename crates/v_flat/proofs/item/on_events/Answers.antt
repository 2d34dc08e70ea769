use Rattle.std.proofs.Common.{[], ◌∷◌, refl, map, arith}
use Rattle.v_renamed.specs.NewNames.{new_name}
use Rattle.v_flat.specs.Items.{renamed_event}
use Rattle.v_flat.specs.Views.{event_of}
use Rattle.v_flat.proofs.Loops.{turn, end, pushed}
use Rattle.v_flat.proofs.Connected.{event_so}
use Rattle.v_flat.proofs.item.on_events.Goals as goal

pub loop-event-preserved : goal.loop-event-preserved
loop-event-preserved c =
    turn (λ x. renamed_event (new_name c.args.names.now) (event_of x) ∷ []) (λ xs. map (renamed_event (new_name c.args.names.now)) (map event_of xs)) (λ x xs. refl)
    c.args.events.now c.loop-event.event-index _ _ (map event_of c.loop-event.list.items) (map event_of c.push.new.self.items) (omega arith) c.loop-event.invariant
    (pushed event_of c.loop-event.list.items c.push.new.self.items _ _ c.in_ok-push.ensures.items
    (event_so (new_name c.args.names.now) _ _ _ c.name_for.ensures))

pub returns : goal.returns
returns c =
    end (λ x. renamed_event (new_name c.args.names.now) (event_of x) ∷ []) (λ xs. map (renamed_event (new_name c.args.names.now)) (map event_of xs)) (λ x xs. refl) refl
    c.args.events.now c.loop-event.event-index _ (map event_of c.loop-event.list.items) (omega (arith, c.loop-event-test.false)) c.loop-event.invariant
