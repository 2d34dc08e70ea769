use Rattle.verilog_renamed.proofs.Meaning.{given_bits_are_the_same, dependences_are_the_same}
use Rattle.verilog_renamed.proofs.laws.renamed_bits_rest_on_the_same.Goals as goal

pub returns : goal.returns
returns c = record { assignments = given_bits_are_the_same; blocks = dependences_are_the_same }
