-- The sum is cut to 128 bits, then to the width.
use Rattle.std.proofs.Common.{◌+◌, ◌∙◌}
use Rattle.wb_bits.proofs.Powers.{mod-mod_wider}
use Rattle.wb_bits.proofs.add.Goals as goal

pub returns-clause-value : goal.returns-clause-value
returns-clause-value c =
    c.lowest_bits.ensures.value ∙ mod-mod_wider (c.args.x.value + c.args.y.value) c.args.x.width 128 c.args.x.at_most_128
