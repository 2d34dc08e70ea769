use Rattle.std.proofs.Common.{◌^◌, sym, arith}
use Rattle.ila_sim.proofs.Digits.{lost_letters}
use Rattle.ila_sim.proofs.numbers.hexadecimal_value.Goals as goal

pub returns-in-None : goal.returns-in-None
returns-in-None c = lost_letters (2 ^ 128) c.loop-digit.number c.args.digits.now c.loop-digit.digit-index 0 c.digit_value.result (omega arith) c.loop-digit.invariant.read c.digit_value.ensures (sym c.in-None.ensures)
