use Rattle.v_masks.proofs.Bits.{set-without}
use Rattle.v_paths.proofs.mask.without.Goals as goal

pub returns : goal.returns
returns c b = set-without c.args.bits c.args.mask b c.ranges.bits.fits c.ranges.mask.fits
