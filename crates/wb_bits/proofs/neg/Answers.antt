-- The difference from 0 is cut to 128 bits, then to the width.
use Rattle.std.proofs.Common.{◌-◌, ◌%◌, ◌^◌, ◌∙◌, ap, zero-add}
use Rattle.wb_bits.proofs.Powers.{sub_wider}
use Rattle.wb_bits.proofs.neg.Goals as goal

pub returns-clause-value : goal.returns-clause-value
returns-clause-value c =
    c.lowest_bits.ensures.value
    ∙ sub_wider 0 c.args.x.value c.args.x.width 128 c.args.x.at_most_128 c.args.x.fits
    ∙ ap (λ n. n % 2 ^ c.args.x.width) (zero-add (2 ^ c.args.x.width - c.args.x.value))
