use Rattle.std.proofs.Common.{◌∙◌, ◌<◌, Vec, Global, length, ap, refl, sym, subst, arith}
use Rattle.std.proofs.Math.ListN.{length-set}
use Rattle.wb_terms.specs.declared.nodes.TermId.{TermId}
use Rattle.wb_terms.specs.Graph.{Graph}
use Rattle.term_copies.specs.Copies.{IsExtended, id_at}
use Rattle.term_copies.proofs.Extending.{extended_refl, extended_trans}
use Rattle.fixed_terms.specs.Fixed.{AreSame}
use Rattle.fixed_terms.proofs.Likeness.{fixes_kept, same_set, are_same_kept}
use Rattle.fixed_terms.proofs.copying.put_each.Goals.{then-eq+in_ok-copy, else-eq}
use Rattle.fixed_terms.proofs.copying.put_each.Goals as goal

pub loop-place-init : goal.loop-place-init
loop-place-init c = record { extended = extended_refl c.args.terms.now; same = c.requires.copies; room = refl }

pub index-requires : goal.index-requires
index-requires c = omega (arith, c.requires.wanted c.loop-place.place c.loop-place-test.true, c.loop-place.invariant.room, c.loop-place.copies.ok.0)

pub put_over-requires-clause-fixes : goal.put_over-requires-clause-fixes
put_over-requires-clause-fixes c = fixes_kept c.args.fixes.now c.loop-place.invariant.extended c.requires.fixes

pub put_over-requires-clause-copies : goal.put_over-requires-clause-copies
put_over-requires-clause-copies c = subst (AreSame c.loop-place.terms c.args.fixes.now) (sym c.deref.ensures.value) c.loop-place.invariant.same

pub put_over-requires-clause-id : goal.put_over-requires-clause-id
put_over-requires-clause-id c =
    let long = ap length c.deref.ensures.value in
    omega (arith, c.requires.wanted c.loop-place.place c.loop-place-test.true, c.loop-place.invariant.room, long)

pub index_mut-requires : goal.index_mut-requires
index_mut-requires c = omega (arith, c.requires.wanted c.loop-place.place c.loop-place-test.true, c.loop-place.invariant.room, c.loop-place.copies.ok.0)

pub loop-place-preserved : goal.loop-place-preserved
loop-place-preserved c =
    let l = c.loop-place in
    let fs = c.args.fixes.now in
    let k = id_at c.args.wanted.now l.place in
    let fixes = fixes_kept fs l.invariant.extended c.requires.fixes in
    let within : k < length l.copies.items = omega (arith, c.requires.wanted l.place c.loop-place-test.true, l.invariant.room) in
    elim c.if-eq.branch [
      | then-eq+in_ok-copy w ↦
          let made = w.in_ok-copy.ensures in
          let id = w.in_ok-copy.copy in
          let now = ap (λ (v : Vec TermId Global). v.items) w.copies-is in
          record {
            extended = subst (IsExtended c.args.terms.now) (sym w.terms-is) (extended_trans l.invariant.extended made.extended);
            same = subst (λ (g : Graph). AreSame g fs c.if-eq.copies.items) (sym w.terms-is) (subst (AreSame w.put_over.new.terms fs) (sym now)
                (same_set w.put_over.new.terms fs l.copies.items k id within made.copy (are_same_kept fs l.copies.items made.extended fixes l.invariant.same)));
            room = ap length now ∙ (length-set l.copies.items k id ∙ l.invariant.room);
          }
      | else-eq w ↦
          let now = ap (λ (v : Vec TermId Global). v.items) w.copies-is in
          record {
            extended = subst (IsExtended c.args.terms.now) (sym w.terms-is) l.invariant.extended;
            same = subst (λ (g : Graph). AreSame g fs c.if-eq.copies.items) (sym w.terms-is) (subst (AreSame l.terms fs) (sym now) l.invariant.same);
            room = ap length now ∙ l.invariant.room;
          }
    ]
