use Rattle.verilog_unique.proofs.Chains.{chains_are_short}
use Rattle.verilog_unique.proofs.laws.chains_of_dependence_are_short.Goals as goal

pub returns : goal.returns
returns c = chains_are_short
