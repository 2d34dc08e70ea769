-- The top bit is the quotient by half of 2^width.
use Rattle.wb_bits.proofs.Powers.{top_by_shift}
use Rattle.wb_bits.proofs.Word.is_negative.Goals as goal

pub returns : goal.returns
returns c = top_by_shift c.args.self.width c.args.self.value c.args.self.some_bits
