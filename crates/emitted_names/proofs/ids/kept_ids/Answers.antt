use Rattle.std.proofs.Common.{◌∙◌, ◌<◌, Vec, Global, length, refl, ap, sym, arith}
use Rattle.wb_terms.specs.declared.nodes.TermId.{TermId}
use Rattle.emitted_names.specs.Ids.{kept_by}
use Rattle.emitted_names.proofs.Listing.{listed_none, listed_one, listed_pass, listed_all}
use Rattle.emitted_names.proofs.ids.kept_ids.Goals.{then-is_wanted+in_ok-push, else-is_wanted}
use Rattle.emitted_names.proofs.ids.kept_ids.Goals as goal

pub loop-place-init : goal.loop-place-init
loop-place-init c = listed_none (kept_by c.args.keep.now) c.args.terms.now _ c.new-ids.ensures.items

pub loop-place-preserved : goal.loop-place-preserved
loop-place-preserved c =
    let keep = kept_by c.args.keep.now in
    let g = c.args.terms.now in
    let l = c.loop-place in
    let within : l.place < length g.nodes = omega (arith, c.loop-place-test.true, c.len-place-end.ensures.terms) in
    elim c.if-is_wanted.branch [
      | then-is_wanted+in_ok-push w ↦ listed_one keep g l.place l.ids.items _ (record { 0 = l.place }) within refl (sym c.is_wanted.ensures ∙ w.if-is_wanted.true)
          (ap (λ (v : Vec TermId Global). v.items) w.ids-is ∙ w.in_ok-push.ensures.items) l.invariant
      | else-is_wanted w ↦ listed_pass keep g l.place l.ids.items _ within (sym c.is_wanted.ensures ∙ w.if-is_wanted.false)
          (ap (λ (v : Vec TermId Global). v.items) w.ids-is) l.invariant
    ]

pub returns-clause-ids : goal.returns-clause-ids
returns-clause-ids c =
    listed_all (kept_by c.args.keep.now) c.args.terms.now c.loop-place.place c.loop-place.ids.items (omega (arith, c.loop-place-test.false, c.len-place-end.ensures.terms)) c.loop-place.invariant

pub returns-clause-below : goal.returns-clause-below
returns-clause-below c = c.loop-place.invariant.below

pub returns-clause-kept : goal.returns-clause-kept
returns-clause-kept c = c.loop-place.invariant.kept
