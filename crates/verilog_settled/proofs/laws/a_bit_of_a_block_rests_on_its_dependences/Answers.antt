use Rattle.std.proofs.Common.{IsTrue}
use Rattle.verilog_settled.proofs.Runs.{run_bit_is_local, block_bit_is_local}
use Rattle.verilog_settled.proofs.laws.a_bit_of_a_block_rests_on_its_dependences.Goals as goal

pub returns : goal.returns
returns c =
    record {
      after = λ s v w is_known. run_bit_is_local s v w (λ n. IsTrue (is_known n));
      given_back = λ s v w is_known. block_bit_is_local s v w (λ n. IsTrue (is_known n));
    }
