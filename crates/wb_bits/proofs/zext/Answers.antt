-- A word fits each greater width.
use Rattle.std.proofs.Common.{◌≤◌, ◌^◌, arith}
use Rattle.std.proofs.Math.Pow.{pow_mono}
use Rattle.wb_bits.proofs.zext.Goals as goal

pub invariant_of-result : goal.invariant_of-result
invariant_of-result c =
    let more : 2 ^ c.args.x.width ≤ 2 ^ c.args.n = pow_mono c.requires.wider in
    record {
      some_bits = omega arith;
      at_most_128 = c.requires.at_most_128;
      fits = omega arith;
    }
