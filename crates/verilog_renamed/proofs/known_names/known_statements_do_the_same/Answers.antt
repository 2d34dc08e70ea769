use Rattle.verilog_renamed.proofs.KnownNames.{known_targets, known_writes, known_updates, known_runs, known_edges}
use Rattle.verilog_renamed.proofs.known_names.known_statements_do_the_same.Goals as goal

pub returns : goal.returns
returns c = record { targets = known_targets; writes = known_writes; updates = known_updates; runs = known_runs; edges = known_edges }
