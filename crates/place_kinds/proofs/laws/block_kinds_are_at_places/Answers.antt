use Rattle.place_kinds.proofs.Blocks.{places_are_ready, event_lists_are_at_places, blocking_is_at_places, nonblocking_is_at_places, latches_are_at_places}
use Rattle.place_kinds.proofs.laws.block_kinds_are_at_places.Goals as goal

pub returns : goal.returns
returns c =
    record {
      ready = places_are_ready;
      events = event_lists_are_at_places;
      blocking = blocking_is_at_places;
      nonblocking = nonblocking_is_at_places;
      latches = latches_are_at_places;
    }
