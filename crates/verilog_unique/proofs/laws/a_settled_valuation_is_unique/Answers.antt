use Rattle.wb_laws.proofs.Settled.{settled_value_fits}
use Rattle.verilog_settled.proofs.Assigned.{assigned_bit_is_local}
use Rattle.verilog_settled.proofs.Runs.{block_bit_is_local}
use Rattle.verilog_unique.proofs.Unique.{is_unique}
use Rattle.verilog_unique.proofs.laws.a_settled_valuation_is_unique.Goals as goal

pub returns : goal.returns
returns c = is_unique settled_value_fits assigned_bit_is_local block_bit_is_local
