use Rattle.std.proofs.Common.{◌∙◌}
use Rattle.v_value.proofs.Bits.{beyond}
use Rattle.v_value.proofs.select.lowered.Goals as goal

pub returns-else-places-lt128-clause-value : goal.returns-else-places-lt128-clause-value
returns-else-places-lt128-clause-value c =
    c.new.ensures.value ∙ beyond c.args.value 128 c.args.places c.args.count c.ranges.value.fits c.if-places-lt128.false
