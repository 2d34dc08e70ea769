use Rattle.verilog_renamed.proofs.Meaning.{read_bits_are_the_same, surely_assigned_bits_are_the_same}
use Rattle.verilog_renamed.proofs.laws.renamed_trees_read_the_same.Goals as goal

pub returns : goal.returns
returns c = record { read = read_bits_are_the_same; surely = surely_assigned_bits_are_the_same }
