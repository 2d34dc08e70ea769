use Rattle.verilog_unique.proofs.Paths.{depth}
use Rattle.verilog_unique.proofs.Bits.{bits_are_finite}
use Rattle.verilog_unique.proofs.laws.a_design_is_finite.Goals as goal

pub returns : goal.returns
returns c = record { paths = depth; bits = bits_are_finite }
