use Rattle.std.proofs.Common.{IsTrue}
use Rattle.verilog_settled.proofs.Assigned.{assigned_bit_is_local}
use Rattle.verilog_settled.proofs.laws.an_assigned_bit_rests_on_what_gives_it.Goals as goal

pub returns : goal.returns
returns c = λ around inner v w inner_v inner_w is_known. assigned_bit_is_local around inner v w inner_v inner_w (λ n. IsTrue (is_known n))
