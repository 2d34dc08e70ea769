use Rattle.v_paths.proofs.Alone.{bad-event-lists}
use Rattle.v_paths.proofs.laws.bad_event_lists_of_one_module.Goals as goal

pub returns : goal.returns
returns c = λ d m is_clock same h e. bad-event-lists d m h e is_clock same
