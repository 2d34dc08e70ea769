use Rattle.std.proofs.Common.{◌≡◌, ◌-◌, ◌+◌, ◌<◌, get_or, length, refl, subst, arith}
use Rattle.wb_values.specs.Value.{truth}
use Rattle.term_copies.proofs.Extending.{extended_refl, extended_trans, count_grows}
use Rattle.condition_terms.proofs.Forming.{IsTermOf-kept}
use Rattle.fixed_terms.specs.Fixed.{IsGuarded}
use Rattle.fixed_terms.proofs.Likeness.{fix_at, fixes_kept}
use Rattle.fixed_terms.proofs.Guarding.{no_fix, guarded_start, guarded_more}
use Rattle.fixed_terms.proofs.guards.put_guards.Goals as goal

pub loop-done-init : goal.loop-done-init
loop-done-init c = record {
  extended = extended_refl c.args.terms.now;
  guarded = guarded_start c.args.terms.now c.args.fixes.now (length c.args.fixes.now - 0) c.args.copy.0 (omega arith) c.requires.copy;
}

pub breaks-requires : goal.breaks-requires
breaks-requires c =
    let l = c.loop-done in
    let fs = c.args.fixes.now in
    (fix_at l.terms fs (length fs - 1 - l.done) no_fix (fixes_kept fs l.invariant.extended c.requires.fixes) (omega (arith, c.loop-done-test.true))).condition

pub either-requires-clause-left : goal.either-requires-clause-left
either-requires-clause-left c = c.in_ok-outside.ensures.value.condition

pub either-requires-clause-right : goal.either-requires-clause-right
either-requires-clause-right c = IsTermOf-kept c.loop-done.all.0 truth c.in_ok-outside.ensures.extended c.loop-done.invariant.guarded.condition

pub loop-done-preserved : goal.loop-done-preserved
loop-done-preserved c =
    let l = c.loop-done in
    let fs = c.args.fixes.now in
    let place = length fs - 1 - l.done in
    let within : place < length fs = omega (arith, c.loop-done-test.true) in
    let before : length fs - l.done ≡ place + 1 = omega (arith, c.loop-done-test.true) in
    let after : place ≡ length fs - (l.done + 1) = omega (arith, c.loop-done-test.true) in
    let fixes = fixes_kept fs l.invariant.extended c.requires.fixes in
    record {
      extended = extended_trans l.invariant.extended (extended_trans c.in_ok-outside.ensures.extended c.in_ok-all.ensures.extended);
      guarded = subst (λ k. IsGuarded c.either.new.terms fs k c.args.copy.0 c.in_ok-all.all.0) after
          (guarded_more l.terms c.breaks.new.terms c.either.new.terms fs place no_fix (get_or fs place no_fix) c.args.copy.0 l.all.0 c.in_ok-outside.outside.0 c.in_ok-all.all.0 refl within
          (omega (arith, c.requires.copy.below, count_grows l.invariant.extended)) c.in_ok-outside.ensures.extended c.in_ok-all.ensures.extended fixes
          (fix_at l.terms fs place no_fix fixes within).condition
          (subst (λ k. IsGuarded l.terms fs k c.args.copy.0 l.all.0) before l.invariant.guarded)
          c.in_ok-outside.ensures.value c.in_ok-all.ensures.value);
    }

pub returns-in_err-outside-clause-extended : goal.returns-in_err-outside-clause-extended
returns-in_err-outside-clause-extended c = extended_trans c.loop-done.invariant.extended c.breaks.ensures.extended

pub returns-in_err-all-clause-extended : goal.returns-in_err-all-clause-extended
returns-in_err-all-clause-extended c = extended_trans c.loop-done.invariant.extended (extended_trans c.in_ok-outside.ensures.extended c.either.ensures.extended)

pub returns-clause-extended : goal.returns-clause-extended
returns-clause-extended c = c.loop-done.invariant.extended

pub returns-clause-guarded : goal.returns-clause-guarded
returns-clause-guarded c =
    let l = c.loop-done in
    let fs = c.args.fixes.now in
    let none : length fs - l.done ≡ 0 = omega (arith, c.loop-done-test.false) in
    subst (λ k. IsGuarded l.terms fs k c.args.copy.0 l.all.0) none l.invariant.guarded
