use Rattle.std.proofs.Common.{◌∙◌, length, sym, subst}
use Rattle.fixed_terms.specs.Fixed.{AreWithin}
use Rattle.fixed_terms.proofs.Likeness.{fixes_kept, own_same}
use Rattle.fixed_terms.proofs.copying.put_copy.Goals as goal

pub put_values-requires-clause-copies : goal.put_values-requires-clause-copies
put_values-requires-clause-copies c = own_same c.args.terms.now c.args.fixes.now c.in_ok-copies.copies.items c.in_ok-copies.ensures

pub put_values-requires-clause-room : goal.put_values-requires-clause-room
put_values-requires-clause-room c = c.in_ok-copies.ensures.room

pub put_each-requires-clause-fixes : goal.put_each-requires-clause-fixes
put_each-requires-clause-fixes c = fixes_kept c.args.fixes.now c.in_ok-put_values.ensures.extended c.requires.fixes

pub put_each-requires-clause-copies : goal.put_each-requires-clause-copies
put_each-requires-clause-copies c = c.in_ok-put_values.ensures.copies

pub put_each-requires-clause-wanted : goal.put_each-requires-clause-wanted
put_each-requires-clause-wanted c =
    let g = c.args.terms.now in
    let room = c.in_ok-put_values.ensures.room ∙ c.in_ok-copies.ensures.room in
    subst (AreWithin (length c.put_values.new.copies.items)) (sym c.deref-2.ensures.value)
    (subst (λ n. AreWithin n c.in_ok-wanted.wanted.items) (sym room) (λ j l. (c.in_ok-wanted.ensures.closed j l).below))
