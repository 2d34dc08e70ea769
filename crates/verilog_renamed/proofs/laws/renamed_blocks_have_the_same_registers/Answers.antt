use Rattle.verilog_renamed.proofs.Meaning.{edges_change_the_same, constants_are_the_same, assigned_bits_are_the_same, other_names_have_no_bits}
use Rattle.verilog_renamed.proofs.laws.renamed_blocks_have_the_same_registers.Goals as goal

pub returns : goal.returns
returns c = record { edges = edges_change_the_same; constants = constants_are_the_same; bits = assigned_bits_are_the_same; others = other_names_have_no_bits }
