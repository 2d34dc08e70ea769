use Rattle.verilog_unique.proofs.Next.{next_is_unique}
use Rattle.verilog_unique.proofs.laws.the_next_registers_are_unique.Goals as goal

pub returns : goal.returns
returns c = next_is_unique
