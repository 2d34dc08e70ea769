use Rattle.std.proofs.Common.{IsTrue}
use Rattle.verilog_settled.proofs.Expressions.{value_is_local, self_value_is_local, assigned_value_is_local}
use Rattle.verilog_settled.proofs.laws.a_value_rests_on_what_is_read.Goals as goal

pub returns : goal.returns
returns c =
    record {
      in_context = λ s v w is_known. value_is_local s v w (λ n. IsTrue (is_known n));
      alone = λ s v w is_known. self_value_is_local s v w (λ n. IsTrue (is_known n));
      assigned = λ s v w is_known. assigned_value_is_local s v w (λ n. IsTrue (is_known n));
    }
