use Rattle.std.proofs.Common.{◌-◌, arith, refl}
use Rattle.std.specs.String.{string_bytes}
use Rattle.v_print.proofs.Bits.{next_digit}
use Rattle.v_print.proofs.number.append_bits.Goals as goal

pub loop-left-preserved : goal.loop-left-preserved
loop-left-preserved c = (omega (arith, c.loop-left.invariant.0, c.loop-left-test.true), next_digit c.loop-left.left (c.loop-left.left - 1) c.args.number.now.value c.args.number.now.unknown c.args.number.now.wild (string_bytes c.loop-left.out.text) (string_bytes c.piece.new.self.text) c.bit_text-digit.result.now _ c.loop-left-test.true refl c.loop-left.invariant.1 c.in_ok-piece.ensures.text c.bit_text-digit.ensures)
