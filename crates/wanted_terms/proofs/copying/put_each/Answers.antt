use Rattle.std.proofs.Common.{◌∙◌, List, length, refl, ap, sym, subst}
use Rattle.wb_terms.specs.declared.nodes.TermId.{TermId}
use Rattle.wb_terms.specs.Graph.{operands_of}
use Rattle.term_copies.specs.Copies.{id_at}
use Rattle.term_copies.proofs.Extending.{extended_refl, extended_trans}
use Rattle.term_copies.proofs.Copying.{leaves_kept}
use Rattle.wanted_terms.specs.Wanted.{AreCopied}
use Rattle.wanted_terms.proofs.Wanted.{none_copied, copied_more, have_listed}
use Rattle.wanted_terms.proofs.copying.put_each.Goals as goal

pub loop-place-init : goal.loop-place-init
loop-place-init c = record {
  extended = extended_refl c.args.terms.now;
  copied = none_copied c.args.terms.now c.args.source.now c.args.leaves.now c.args.wanted.now c.in_ok-copies.copies.items
      (sym c.in_ok-copies.copies.ok.0 ∙ c.in_ok-copies.ensures.len ∙ c.len.ensures.terms);
}

pub put_copy-requires-clause-id : goal.put_copy-requires-clause-id
put_copy-requires-clause-id c = (c.requires.wanted c.loop-place.place c.loop-place-test.true).below

pub put_copy-requires-clause-room : goal.put_copy-requires-clause-room
put_copy-requires-clause-room c = ap length c.deref.ensures.value ∙ c.loop-place.invariant.copied.room

pub put_copy-requires-clause-leaves : goal.put_copy-requires-clause-leaves
put_copy-requires-clause-leaves c = leaves_kept c.args.source.now.names c.args.leaves.now c.loop-place.invariant.extended c.requires.leaves

pub put_copy-requires-clause-operands : goal.put_copy-requires-clause-operands
put_copy-requires-clause-operands c n is =
    let l = c.loop-place in
    have_listed l.terms c.args.source.now c.args.leaves.now c.args.wanted.now c.deref.result.now l.place (operands_of n)
    (subst (λ (ids : List TermId). AreCopied l.terms c.args.source.now c.args.leaves.now c.args.wanted.now l.place ids) (sym c.deref.ensures.value) l.invariant.copied)
    ((c.requires.wanted l.place c.loop-place-test.true).operands n is)

pub loop-place-preserved : goal.loop-place-preserved
loop-place-preserved c =
    let l = c.loop-place in
    let leaves = leaves_kept c.args.source.now.names c.args.leaves.now l.invariant.extended c.requires.leaves in
    record {
      extended = extended_trans l.invariant.extended c.in_ok-copy.ensures.extended;
      copied = copied_more c.args.source.now c.args.leaves.now c.args.wanted.now l.copies.items l.place (id_at c.args.wanted.now l.place) c.in_ok-copy.copy refl
          (c.requires.wanted l.place c.loop-place-test.true).below c.in_ok-copy.ensures.extended leaves l.invariant.copied c.in_ok-copy.ensures.copy;
    }
