use Rattle.std.proofs.Common.{◌≡◌, map, length}
use Rattle.v_token.specs.View.{tokens_of}
use Rattle.v_expr.proofs.Repeat.{with_front}
use Rattle.v_parse.specs.Reading.{next_event, event_at, event_list_at}
use Rattle.v_parse.specs.View.{event_of}
use Rattle.v_parse.specs.Lists.{others_at}
use Rattle.v_parse.proofs.event.event_list.Given as goal

abbrev pub invariant-loop-events : goal.invariant-loop-events
invariant-loop-events l = with_front (map event_of l.events.items) (others_at next_event event_at (tokens_of l.rest)) ≡ event_list_at (tokens_of l.tokens)

abbrev pub decreases-loop-events : goal.decreases-loop-events
decreases-loop-events l = length (tokens_of l.rest)
