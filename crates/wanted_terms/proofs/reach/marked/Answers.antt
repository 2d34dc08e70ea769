use Rattle.std.proofs.Common.{◌∙◌, ◌+◌, List, Vec, Global, length, refl, ap, sym, subst, arith}
use Rattle.wb_terms.specs.declared.nodes.TermId.{TermId}
use Rattle.wanted_terms.proofs.Listing.{IsListing, listing_start, listing_push, listing_pass, roots_listed}
use Rattle.wanted_terms.proofs.Marks.{below_more}
use Rattle.wanted_terms.proofs.reach.marked.Goals.{then-mark+in_ok-push, else-mark}
use Rattle.wanted_terms.proofs.reach.marked.Goals as goal

pub loop-place-init : goal.loop-place-init
loop-place-init c =
    subst (λ (ids : List TermId). IsListing c.args.terms.now c.args.marks.now 0 ids) (sym c.new-ids.ensures.items) (listing_start c.args.terms.now c.args.marks.now)

pub loop-place-preserved : goal.loop-place-preserved
loop-place-preserved c =
    let g = c.args.terms.now in
    let ms = c.args.marks.now in
    let l = c.loop-place in
    elim c.if-mark.branch [
      | then-mark+in_ok-push w ↦ subst (λ (ids : List TermId). IsListing g ms (l.place + 1) ids) (sym (ap (λ (v : Vec TermId Global). v.items) w.ids-is ∙ w.in_ok-push.ensures.items))
          (listing_push g ms l.place l.ids.items (record { 0 = l.place }) refl (omega (arith, c.loop-place-test.true, c.requires.room)) w.if-mark.true c.requires.under l.invariant)
      | else-mark w ↦ subst (λ (ids : List TermId). IsListing g ms (l.place + 1) ids) (sym (ap (λ (v : Vec TermId Global). v.items) w.ids-is))
          (listing_pass g ms l.place l.ids.items w.if-mark.false l.invariant)
    ]

pub returns-clause-closed : goal.returns-clause-closed
returns-clause-closed c = c.loop-place.invariant.closed

pub returns-clause-roots : goal.returns-clause-roots
returns-clause-roots c =
    roots_listed c.args.terms.now c.args.marks.now c.loop-place.place c.loop-place.ids.items c.args.roots.now c.loop-place.invariant
    (below_more (length c.args.terms.now.nodes) c.loop-place.place c.args.roots.now (omega (arith, c.requires.room)) c.requires.below) c.requires.roots
