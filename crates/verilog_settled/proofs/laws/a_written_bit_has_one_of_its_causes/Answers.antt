use Rattle.std.proofs.Common.{IsTrue}
use Rattle.verilog_settled.proofs.Targets.{written_bit_is_local}
use Rattle.verilog_settled.proofs.laws.a_written_bit_has_one_of_its_causes.Goals as goal

pub returns : goal.returns
returns c = λ s v w is_known. written_bit_is_local s v w (λ n. IsTrue (is_known n))
