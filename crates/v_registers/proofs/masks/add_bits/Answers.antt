use Rattle.std.proofs.Common.{◌∙◌, ap, arith, refl, inl, inr, length-set, slice_index, bit_or}
use Rattle.std.specs.Prelude.{◌||◌}
use Rattle.verilog_meaning.specs.Register.{is_set}
use Rattle.v_registers.proofs.WordMasks.{word_added, none_between, all_between}
use Rattle.v_registers.proofs.masks.add_bits.Goals as goal

pub loop-k-init : goal.loop-k-init
loop-k-init c =
    record {
      long = refl;
      bits = λ j b. none_between c.args.from c.args.from j (is_set (slice_index c.args.masks.now j) b) (is_set c.args.bits b) (omega arith);
      from = omega arith;
      upto = inl refl;
    }

pub loop-k-preserved : goal.loop-k-preserved
loop-k-preserved c =
    let i = c.loop-k.invariant in
    record {
      long = length-set c.loop-k.masks c.loop-k.k (bit_or (slice_index c.loop-k.masks c.loop-k.k) c.args.bits) ∙ i.long;
      bits = λ j b. word_added c.loop-k.masks c.loop-k.k c.args.from c.args.bits j b (omega arith) i.from (is_set (slice_index c.args.masks.now j) b) (i.bits j b);
      from = omega arith;
      upto = inr (omega arith);
    }

pub returns-clause-bits : goal.returns-clause-bits
returns-clause-bits c = λ k b h.
    c.loop-k.invariant.bits k b
    ∙ ap (λ t. is_set (slice_index c.args.masks.now k) b || t)
    (all_between c.args.from c.loop-k.k c.cut-last.result c.args.to _ k (is_set c.args.bits b) h c.loop-k.invariant.upto (omega arith) c.cut-last.ensures.cut)
