use Rattle.std.proofs.Common.{◌∙◌, sym}
use Rattle.map_memories.proofs.Tests.{far_below, above_test}
use Rattle.map_memories.proofs.memories.is_last.Goals as goal

pub returns-else-address_width-le32 : goal.returns-else-address_width-le32
returns-else-address_width-le32 c =
    above_test c.args.address_width 32 c.if-address_width-le32.false
    ∙ sym (far_below c.args.address_width c.args.number c.if-address_width-le32.false c.ranges.number.fits)
