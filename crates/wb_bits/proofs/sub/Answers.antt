-- The difference is cut to 128 bits, then to the width.
use Rattle.std.proofs.Common.{◌<◌, ◌^◌, ◌∙◌, sym, subst}
use Rattle.wb_bits.proofs.Powers.{sub_wider}
use Rattle.wb_bits.proofs.sub.Goals as goal

pub returns-clause-value : goal.returns-clause-value
returns-clause-value c =
    c.lowest_bits.ensures.value
    ∙ sub_wider c.args.x.value c.args.y.value c.args.x.width 128 c.args.x.at_most_128
    (subst (λ w. c.args.y.value < 2 ^ w) (sym c.requires) c.args.y.fits)
