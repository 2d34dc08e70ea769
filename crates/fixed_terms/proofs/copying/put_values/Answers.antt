use Rattle.std.proofs.Common.{◌∙◌, get_or, length, refl, arith}
use Rattle.std.proofs.Math.ListN.{length-set}
use Rattle.term_copies.proofs.Extending.{extended_refl, extended_trans}
use Rattle.fixed_terms.proofs.Likeness.{fix_at, fixes_kept, same_value, same_set, are_same_kept, constant_over}
use Rattle.fixed_terms.proofs.Guarding.{no_fix}
use Rattle.fixed_terms.proofs.copying.put_values.Goals as goal

pub loop-place-init : goal.loop-place-init
loop-place-init c = record { extended = extended_refl c.args.terms.now; same = c.requires.copies; room = refl }

pub put-requires-clause-over : goal.put-requires-clause-over
put-requires-clause-over c =
    let l = c.loop-place in
    let fs = c.args.fixes.now in
    constant_over l.terms (length l.terms.nodes) (get_or fs l.place no_fix).value (fix_at l.terms fs l.place no_fix (fixes_kept fs l.invariant.extended c.requires.fixes) c.loop-place-test.true).fixed.constant

pub put-requires-clause-sorted : goal.put-requires-clause-sorted
put-requires-clause-sorted c =
    let l = c.loop-place in
    let fs = c.args.fixes.now in
    (fix_at l.terms fs l.place no_fix (fixes_kept fs l.invariant.extended c.requires.fixes) c.loop-place-test.true).fixed.sorted

pub index_mut-requires : goal.index_mut-requires
index_mut-requires c =
    let l = c.loop-place in
    omega (arith, (fix_at c.args.terms.now c.args.fixes.now l.place no_fix c.requires.fixes c.loop-place-test.true).name, l.invariant.room, c.requires.room, l.copies.ok.0)

pub loop-place-preserved : goal.loop-place-preserved
loop-place-preserved c =
    let l = c.loop-place in
    let fs = c.args.fixes.now in
    let f = get_or fs l.place no_fix in
    let fixes = fixes_kept fs l.invariant.extended c.requires.fixes in
    let within = (fix_at c.args.terms.now fs l.place no_fix c.requires.fixes c.loop-place-test.true).name in
    let made = c.in_ok-value.ensures in
    record {
      extended = extended_trans l.invariant.extended made.extended;
      same = same_set c.put.new.terms fs l.copies.items f.name.0 c.in_ok-value.value (omega (arith, within, l.invariant.room, c.requires.room))
          (same_value l.terms c.put.new.terms fs l.place no_fix f c.in_ok-value.value.0 refl made.extended fixes c.loop-place-test.true made.below made.tree)
          (are_same_kept fs l.copies.items made.extended fixes l.invariant.same);
      room = length-set l.copies.items f.name.0 c.in_ok-value.value ∙ l.invariant.room;
    }

pub returns-in_err-value-clause-extended : goal.returns-in_err-value-clause-extended
returns-in_err-value-clause-extended c = extended_trans c.loop-place.invariant.extended c.put.ensures.extended
