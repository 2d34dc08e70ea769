use Rattle.verilog_meaning.proofs.Parts.{are_parts}
use Rattle.verilog_meaning.proofs.laws.processes_have_all_parts.Goals as goal

pub returns : goal.returns
returns c = are_parts
