use Rattle.verilog_renamed.proofs.KnownNames.{known_expressions, known_constants, known_reads, known_parts, known_select, known_selects}
use Rattle.verilog_renamed.proofs.known_names.known_expressions_mean_the_same.Goals as goal

pub returns : goal.returns
returns c = record { expressions = known_expressions; constants = known_constants; read = known_reads; parts = known_parts; select = known_select; selects = known_selects }
