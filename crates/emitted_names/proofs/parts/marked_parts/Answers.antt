use Rattle.std.proofs.Common.{◌≡◌, ◌∙◌, Vec, Global, refl, ap, sym, arith}
use Rattle.wb_terms.specs.declared.nodes.TermId.{TermId}
use Rattle.emitted_names.specs.Ids.{ids_of}
use Rattle.emitted_names.specs.Parts.{parts_of}
use Rattle.emitted_names.proofs.PartLists.{one_part, no_part}
use Rattle.emitted_names.proofs.parts.marked_parts.Goals.{then-is_part+in_ok-push, else-is_part}
use Rattle.emitted_names.proofs.parts.marked_parts.Goals as goal

pub loop-place-init : goal.loop-place-init
loop-place-init c = ap ids_of c.new-ids.ensures.items

pub loop-place-preserved : goal.loop-place-preserved
loop-place-preserved c =
    let g = c.args.terms.now in
    let l = c.loop-place in
    elim c.if-is_part.branch [
      | then-is_part+in_ok-push w ↦ one_part g c.args.memory.0 l.place l.ids.items _ (record { 0 = l.place }) refl (sym c.is_part.ensures ∙ w.if-is_part.true)
          (ap (λ (v : Vec TermId Global). v.items) w.ids-is ∙ w.in_ok-push.ensures.items) l.invariant
      | else-is_part w ↦ no_part g c.args.memory.0 l.place l.ids.items _ (sym c.is_part.ensures ∙ w.if-is_part.false)
          (ap (λ (v : Vec TermId Global). v.items) w.ids-is) l.invariant
    ]

pub returns : goal.returns
returns c =
    let e : c.loop-place.place ≡ c.args.count = omega (arith, c.loop-place-test.false, c.loop-place.auto.place-end) in
    c.loop-place.invariant ∙ ap (parts_of c.args.terms.now c.args.memory.0) e
