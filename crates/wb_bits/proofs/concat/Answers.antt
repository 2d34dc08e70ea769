-- The high part moved up and the low part share no bit, and fit.
use Rattle.std.proofs.Common.{◌+◌, ◌<◌, ◌^◌, sym, subst, arith}
use Rattle.wb_bits.proofs.Powers.{or_above, above_fits}
use Rattle.wb_bits.proofs.concat.Goals as goal

pub returns-clause-value : goal.returns-clause-value
returns-clause-value c =
    or_above c.args.x.value c.args.x.width c.args.y.value c.args.y.width 128 c.args.x.fits c.args.y.fits c.requires

pub invariant_of-result : goal.invariant_of-result
invariant_of-result c = record {
  some_bits = omega arith;
  at_most_128 = c.requires;
  fits =
      subst (λ n. n < 2 ^ (c.args.x.width + c.args.y.width))
      (sym (or_above c.args.x.value c.args.x.width c.args.y.value c.args.y.width 128 c.args.x.fits c.args.y.fits c.requires))
      (above_fits c.args.x.value c.args.x.width c.args.y.value c.args.y.width c.args.x.fits c.args.y.fits);
}
