use Rattle.v_paths.proofs.Alone.{event-lists}
use Rattle.v_paths.proofs.laws.event_lists_of_one_module.Goals as goal

pub returns : goal.returns
returns c = λ d m is_clock x es same h e. event-lists d m h e is_clock same x es
