use Rattle.verilog_renamed.proofs.KnownNames.{known_given, known_dependences}
use Rattle.verilog_renamed.proofs.known_names.known_bits_rest_on_the_same.Goals as goal

pub returns : goal.returns
returns c = record { assignments = known_given; blocks = known_dependences }
