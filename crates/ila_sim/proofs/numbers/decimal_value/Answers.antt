use Rattle.std.proofs.Common.{◌^◌, sym, arith}
use Rattle.ila_sim.proofs.Digits.{lost_decimals}
use Rattle.ila_sim.proofs.numbers.decimal_value.Goals as goal

pub returns-in-None : goal.returns-in-None
returns-in-None c = lost_decimals (2 ^ 128) c.loop-digit.number c.args.digits.now c.loop-digit.digit-index 0 c.saturating_sub.result (omega arith) c.loop-digit.invariant.read c.saturating_sub.ensures (sym c.in-None.ensures)
