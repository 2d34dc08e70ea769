use Rattle.verilog_renamed.proofs.Meaning.{equations_hold_the_same, targets_are_renamed, constant_targets_are_the_same}
use Rattle.verilog_renamed.proofs.laws.renamed_equations_hold_where_the_others_do.Goals as goal

pub returns : goal.returns
returns c = record { equations = equations_hold_the_same; targets = targets_are_renamed; constant_targets = constant_targets_are_the_same }
