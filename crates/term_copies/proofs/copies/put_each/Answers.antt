use Rattle.std.proofs.Common.{◌≡◌, ◌+◌, ◌++◌, ◌∷◌, [], List, sym, subst}
use Rattle.wb_terms.specs.declared.nodes.TermId.{TermId}
use Rattle.term_copies.specs.Copies.{AreCopiesOf}
use Rattle.term_copies.proofs.Extending.{extended_refl, extended_trans}
use Rattle.term_copies.proofs.Copying.{no_copies, leaves_kept, copies_more}
use Rattle.term_copies.proofs.copies.put_each.Goals as goal

pub loop-k-init : goal.loop-k-init
loop-k-init c =
    let g = c.args.terms.now in
    let source = c.args.source.now in
    let leaves = c.args.leaves.now in (
      extended_refl g,
      subst (λ (ids : List TermId). AreCopiesOf 0 g source leaves ids) (sym c.new-copies.ensures.items) (no_copies g source leaves),
    )

pub put_copy-requires-clause-leaves : goal.put_copy-requires-clause-leaves
put_copy-requires-clause-leaves c = leaves_kept c.args.source.now.names c.args.leaves.now c.loop-k.invariant.0 c.requires

pub put_copy-requires-clause-earlier : goal.put_copy-requires-clause-earlier
put_copy-requires-clause-earlier c =
    let l = c.loop-k in
    subst (λ (ids : List TermId). AreCopiesOf l.k l.terms c.args.source.now c.args.leaves.now ids) (sym c.deref.ensures.value) l.invariant.1

pub loop-k-preserved : goal.loop-k-preserved
loop-k-preserved c =
    let l = c.loop-k in
    let leaves = leaves_kept c.args.source.now.names c.args.leaves.now l.invariant.0 c.requires in (
      extended_trans l.invariant.0 c.in_ok-copy.ensures.extended,
      subst (λ (ids : List TermId). AreCopiesOf (l.k + 1) c.put_copy.new.terms c.args.source.now c.args.leaves.now ids) (sym c.in_ok-push.ensures.items)
          (copies_more l.terms c.put_copy.new.terms c.args.source.now c.args.leaves.now l.copies.items l.k c.in_ok-copy.copy c.in_ok-copy.ensures.extended leaves l.invariant.1
          c.in_ok-copy.ensures.copy),
    )
