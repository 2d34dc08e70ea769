-- The shorter mask is below the longer one.
use Rattle.std.proofs.Common.{◌≤◌, ◌^◌, arith}
use Rattle.std.proofs.Math.Pow.{pow_mono}
use Rattle.wb_bits.proofs.mask_between.Goals as goal

pub overflow_sub-result : goal.overflow_sub-result
overflow_sub-result c =
    let more : 2 ^ c.args.low ≤ 2 ^ c.args.high = pow_mono c.requires.order in
    omega arith
