use Rattle.std.proofs.Common.{IsTrue}
use Rattle.verilog_settled.proofs.Plain.{copied_bit_is_local}
use Rattle.verilog_settled.proofs.PlainShown.{copied_bit_is_there}
use Rattle.verilog_settled.proofs.laws.a_plain_bit_rests_on_the_bit_that_is_copied.Goals as goal

pub returns : goal.returns
returns c =
    record {
      one = λ s v w is_known. copied_bit_is_local s v w (λ n. IsTrue (is_known n));
      there = λ s v is_known. copied_bit_is_there s v (λ n. IsTrue (is_known n));
    }
