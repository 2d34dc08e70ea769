-- The shifted number is cut to the width, and nothing is left from 128 bits on.
use Rattle.std.proofs.Common.{◌*◌, ◌%◌, ◌^◌, ◌∙◌, ap}
use Rattle.wb_bits.proofs.Powers.{shl_cut}
use Rattle.wb_bits.proofs.shl.Goals as goal

pub returns-clause-value : goal.returns-clause-value
returns-clause-value c =
    c.lowest_bits.ensures.value
    ∙ ap (λ n. n % 2 ^ c.args.x.width) c.unwrap_or.ensures
    ∙ shl_cut c.checked_shl.result c.args.x.value c.shift_of-shift.result c.args.x.width 128 c.args.x.at_most_128 c.checked_shl.ensures
    ∙ ap (λ s. c.args.x.value * 2 ^ s % 2 ^ c.args.x.width) c.shift_of-shift.ensures
