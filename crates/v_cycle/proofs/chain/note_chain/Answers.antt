use Rattle.std.proofs.Common.{◌∙◌, refl, sym, ap, arith}
use Rattle.wb_terms.specs.Environment.{value_of}
use Rattle.v_cycle.specs.Changing.{stored_by}
use Rattle.v_cycle.proofs.Changed.{stored_by-push}
use Rattle.v_cycle.proofs.chain.note_chain.Goals as goal

pub loop-base-preserved : goal.loop-base-preserved
loop-base-preserved c =
    let i = c.loop-base.invariant in
    let x = value_of c.args.terms.now c.args.env.now c.in-Over.earlier.0 in
    let added = c.if-not-add_store.ensures in
    record {
      earlier = omega (arith, i.earlier, c.in-Over.ensures.0);
      chain = i.chain ∙ ap (λ y. stored_by y c.loop-base.changes.chain.items) c.in-Over.ensures.1
          ∙ sym (ap (stored_by x) (added.chain refl) ∙ stored_by-push x c.loop-base.changes.chain.items c.in-Over.stored);
      list = added.list ∙ i.list;
      complete = added.complete ∙ i.complete;
    }
