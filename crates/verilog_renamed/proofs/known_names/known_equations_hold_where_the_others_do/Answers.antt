use Rattle.verilog_renamed.proofs.KnownNames.{known_has, known_assigned, known_has_run, known_has_runs}
use Rattle.verilog_renamed.proofs.known_names.known_equations_hold_where_the_others_do.Goals as goal

pub returns : goal.returns
returns c = record { targets = known_has; assignments = known_assigned; runs = known_has_run; blocks = known_has_runs }
