use Rattle.std.proofs.Common.{◌∙◌, ap}
use Rattle.wb_values.specs.Value.{memory}
use Rattle.model_meaning.specs.Term.{val}
use Rattle.v_operators.proofs.Growing.{Grows-trans, IsOfSort-kept, tree_kept}
use Rattle.v_elab.specs.Kept.{named_at}
use Rattle.v_elab.proofs.Cutting.{one_cut}
use Rattle.v_elab.proofs.memory.memory_kept.Goals as goal

pub loop-address-preserved : goal.loop-address-preserved
loop-address-preserved c =
    let i = c.loop-address.invariant in
    record {
      grows = Grows-trans i.grows c.word_cut.ensures.grows;
      whole = IsOfSort-kept c.in_ok-whole.whole.0 (memory c.args.address_width c.args.width) c.word_cut.ensures.grows i.whole;
      same = λ p. ap (λ t. val t p) (tree_kept c.in_ok-whole.whole.0 c.word_cut.ensures.grows i.whole.below) ∙ i.same p;
      cut = one_cut c.loop-address.terms c.word_cut.new.terms (named_at c.args.terms.now c.args.place.0).0 c.args.address_width c.args.width c.args.masks.now c.loop-address.address
          c.mask_at.result c.in_ok-whole.whole.0 c.loop-address.id.0 c.in_ok-id.id.0 c.mask_at.ensures i.same i.cut c.in_ok-id.ensures.cut;
    }
