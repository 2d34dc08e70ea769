-- The exclusive or of two words of one width fits it.
use Rattle.std.proofs.Common.{◌<◌, ◌^◌, sym, subst}
use Rattle.std.proofs.lemmas.Nat.{xor_lt}
use Rattle.wb_bits.proofs.xor.Goals as goal

pub invariant_of-result : goal.invariant_of-result
invariant_of-result c = record {
  some_bits = c.args.x.some_bits;
  at_most_128 = c.args.x.at_most_128;
  fits = xor_lt c.args.x.width c.args.x.value c.args.y.value c.args.x.fits (subst (λ w. c.args.y.value < 2 ^ w) (sym c.requires) c.args.y.fits);
}
