use Rattle.verilog_renamed.proofs.Meaning.{expressions_mean_the_same, parts_mean_the_same}
use Rattle.verilog_renamed.proofs.laws.a_renamed_expression_means_the_same.Goals as goal

pub returns : goal.returns
returns c = record { expressions = expressions_mean_the_same; parts = parts_mean_the_same }
