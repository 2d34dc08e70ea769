use Rattle.std.proofs.Common.{List, sym, subst}
use Rattle.wb_values.specs.Value.{truth}
use Rattle.fixed_terms.specs.declared.fixes.Fix.{Fix}
use Rattle.fixed_terms.specs.Fixed.{AreFixes, AreKnown, IsSame, IsGuarded}
use Rattle.fixed_terms.proofs.Likeness.{fixes_kept}
use Rattle.fixed_terms.proofs.Guarding.{guarded_same, copy_is_term}
use Rattle.fixed_terms.proofs.fixing.with_fixed.Goals as goal

pub fixes_of-requires-clause-known : goal.fixes_of-requires-clause-known
fixes_of-requires-clause-known c = subst (AreKnown c.args.terms.now c.args.id.0) (sym c.deref.ensures.value) c.in_ok-known.ensures

pub put_copy-requires-clause-fixes : goal.put_copy-requires-clause-fixes
put_copy-requires-clause-fixes c = subst (AreFixes c.args.terms.now) (sym c.deref-2.ensures.value) c.in_ok-fixes.ensures.fixes

pub put_guards-requires-clause-copy : goal.put_guards-requires-clause-copy
put_guards-requires-clause-copy c =
    copy_is_term c.deref-2.result.now c.args.id.0 c.in_ok-copy.copy.0 c.in_ok-copy.ensures.extended c.check_sorts-2.ensures (c.check_sorts.ensures c.args.id.0 truth c.requires.id c.requires.sort) c.in_ok-copy.ensures.copy

pub put_guards-requires-clause-fixes : goal.put_guards-requires-clause-fixes
put_guards-requires-clause-fixes c = subst (AreFixes c.put_copy.new.terms) (sym c.deref-3.ensures.value) (fixes_kept c.in_ok-fixes.fixes.items c.in_ok-copy.ensures.extended c.in_ok-fixes.ensures.fixes)

pub returns-clause-term : goal.returns-clause-term
returns-clause-term c = c.in_ok-all.ensures.guarded.condition

pub returns-clause-value : goal.returns-clause-value
returns-clause-value c v fit =
    let g = c.args.terms.now in
    let fs = c.in_ok-fixes.fixes.items in
    let same = subst (λ (xs : List Fix). IsSame c.put_copy.new.terms xs c.in_ok-copy.copy.0 c.args.id.0) c.deref-2.ensures.value c.in_ok-copy.ensures.copy in
    let guarded = subst (λ (xs : List Fix). IsGuarded c.put_guards.new.terms xs 0 c.in_ok-copy.copy.0 c.in_ok-all.all.0) c.deref-3.ensures.value c.in_ok-all.ensures.guarded in
    guarded_same g c.put_copy.new.terms c.put_guards.new.terms fs c.args.id.0 c.in_ok-copy.copy.0 c.in_ok-all.all.0 v (c.check_sorts.ensures c.args.id.0 truth c.requires.id c.requires.sort) c.in_ok-copy.ensures.extended c.in_ok-all.ensures.extended
    c.in_ok-fixes.ensures.fixes c.in_ok-fixes.ensures.follow same guarded fit

pub known_where_false-requires-clause-id : goal.known_where_false-requires-clause-id
known_where_false-requires-clause-id c = c.check_sorts.ensures c.args.id.0 truth c.requires.id c.requires.sort

pub returns-then-is_empty-clause-term : goal.returns-then-is_empty-clause-term
returns-then-is_empty-clause-term c = c.check_sorts.ensures c.args.id.0 truth c.requires.id c.requires.sort
