-- The word and the ones above it share no bit, and fit.
use Rattle.std.proofs.Common.{◌≡◌, ◌+◌, ◌-◌, ◌^◌, true, cond, sym, ap, ◌∙◌, arith}
use Rattle.wb_values.specs.Number.{top_bit}
use Rattle.wb_bits.proofs.Powers.{or_fill, fill_fits}
use Rattle.wb_bits.proofs.sext.Goals as goal

pub returns-clause-value : goal.returns-clause-value
returns-clause-value c =
    let x = c.args.x.value in
    let w = c.args.x.width in
    let negative : true ≡ top_bit w x = sym c.if-not-is_negative.false ∙ c.is_negative.ensures in
    or_fill x w c.args.n c.mask_between.result c.requires.wider c.args.x.fits c.mask_between.ensures
    ∙ ap (λ t. x + cond t (2 ^ c.args.n - 2 ^ w) 0) negative

pub invariant_of-result : goal.invariant_of-result
invariant_of-result c = record {
  some_bits = omega arith;
  at_most_128 = c.requires.at_most_128;
  fits = fill_fits c.args.x.value c.args.x.width c.args.n c.mask_between.result c.requires.wider c.args.x.fits c.mask_between.ensures;
}
