-- The lowest bits of the number with all 128 bits flipped.
use Rattle.std.proofs.Common.{◌∙◌}
use Rattle.wb_bits.proofs.Powers.{not_wider}
use Rattle.wb_bits.proofs.not.Goals as goal

pub returns-clause-value : goal.returns-clause-value
returns-clause-value c =
    c.lowest_bits.ensures.value ∙ not_wider c.args.x.value c.args.x.width 128 c.args.x.at_most_128 c.args.x.fits
