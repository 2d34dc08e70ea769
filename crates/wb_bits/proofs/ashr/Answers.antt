-- The shifted word and the ones above it share no bit, and fit.
use Rattle.std.proofs.Common.{◌≡◌, ◌+◌, ◌-◌, ◌/◌, ◌^◌, ◌<◌, ◌≤◌, min, true, cond, bit_or, sym, ap, subst, ◌∙◌, arith}
use Rattle.wb_values.specs.Number.{top_bit}
use Rattle.wb_bits.proofs.Powers.{or_ashr, ashr_fits}
use Rattle.wb_bits.proofs.ashr.Goals as goal

pub returns-clause-value : goal.returns-clause-value
returns-clause-value c =
    let w = c.args.x.width in
    let m = min c.args.y.value w in
    let within : m ≤ w = omega arith in
    let negative : true ≡ top_bit w c.args.x.value = sym c.if-not-is_negative.false ∙ c.is_negative.ensures in
    ap (λ n. bit_or n c.mask_between-fill.result) c.lshr-shifted.ensures.value
    ∙ or_ashr c.args.x.value w m c.shift_of.result c.mask_between-fill.result within c.args.x.fits c.shift_of.ensures c.mask_between-fill.ensures
    ∙ ap (λ t. c.args.x.value / 2 ^ m + cond t (2 ^ w - 2 ^ (w - m)) 0) negative

pub invariant_of-result : goal.invariant_of-result
invariant_of-result c =
    let w = c.args.x.width in
    let m = min c.args.y.value w in
    let within : m ≤ w = omega arith in
    record {
      some_bits = c.args.x.some_bits;
      at_most_128 = c.args.x.at_most_128;
      fits =
          subst (λ n. bit_or n c.mask_between-fill.result < 2 ^ w) (sym c.lshr-shifted.ensures.value)
          (ashr_fits c.args.x.value w m c.shift_of.result c.mask_between-fill.result within c.args.x.fits c.shift_of.ensures c.mask_between-fill.ensures);
    }
