use Rattle.std.proofs.Common.{◌∙◌, ◌≡◌, false, true, length, replicate, rules, refl, ap, arith, ℕ, subst}
use Rattle.std.proofs.lemmas.List.{length-replicate}
use Rattle.std.proofs.Math.ListN.{length-set}
use Rattle.term_copies.specs.Copies.{id_at}
use Rattle.emitted_names.specs.Keeping.{AreMarks}
use Rattle.emitted_names.proofs.Marking.{unmarked, one_marked}
use Rattle.emitted_names.proofs.keeping.marks_at.Goals as goal

pub loop-place-init : goal.loop-place-init
loop-place-init c =
    let n = length c.args.terms.now.nodes in
    let e : c.in_ok-marks.marks.items ≡ replicate n false =
    c.in_ok-marks.ensures.items_if_clones_equal (λ y same. search rules) ∙ ap (λ (k : ℕ). replicate k false) c.len.ensures.terms in
    unmarked n c.args.wanted.now c.in_ok-marks.marks.items (ap length e ∙ length-replicate n false) e

pub index_mut-requires : goal.index_mut-requires
index_mut-requires c =
    let l = c.loop-place in
    omega (arith, (c.requires l.place c.loop-place-test.true).below, l.invariant.room, l.marks.ok.0)

pub loop-place-preserved : goal.loop-place-preserved
loop-place-preserved c =
    let l = c.loop-place in
    let n = length c.args.terms.now.nodes in
    one_marked n c.args.wanted.now l.place (record { 0 = id_at c.args.wanted.now l.place }) l.marks.items _ refl (c.requires l.place c.loop-place-test.true).below c.loop-place-test.true
    (length-set l.marks.items (id_at c.args.wanted.now l.place) true ∙ l.invariant.room) refl l.invariant

pub returns : goal.returns
returns c =
    let l = c.loop-place in
    let e : l.place ≡ length c.args.wanted.now = omega (arith, c.loop-place-test.false, l.auto.place-end) in
    subst (λ (k : ℕ). AreMarks c.args.wanted.now k l.marks.items) e l.invariant.at_terms
