use Rattle.std.proofs.Common.{◌≡◌, ◌∙◌, ◌<◌, Vec, Global, [], ◌∷◌, ◌++◌, length, ap, sym, subst, arith}
use Rattle.wb_terms.specs.declared.nodes.TermId.{TermId}
use Rattle.fixed_terms.specs.declared.fixes.Fix.{Fix}
use Rattle.fixed_terms.specs.Fixed.{AreFixes, AllFollow, Follows}
use Rattle.fixed_terms.proofs.Likeness.{fixes_push, follow_push}
use Rattle.fixed_terms.proofs.fixes.fixes_of.Goals.{in-Some+in-Some-fix_of+in_ok-push, in-Some+in_default-fix_of, in_default}
use Rattle.fixed_terms.proofs.fixes.fixes_of.Goals as goal

pub loop-place-init : goal.loop-place-init
loop-place-init c =
    (subst (AreFixes c.args.terms.now) (sym c.new-fixes.ensures.items) tt, subst (AllFollow c.args.terms.now c.args.id.0) (sym c.new-fixes.ensures.items) tt)

pub fix_of-requires-clause-condition : goal.fix_of-requires-clause-condition
fix_of-requires-clause-condition c =
    (c.requires.known.follows c.loop-place.place c.in-Some.holds (omega (arith, c.loop-place-test.true, c.requires.id, c.requires.known.room)) c.in-Some.is).condition

pub loop-place-preserved : goal.loop-place-preserved
loop-place-preserved c =
    let g = c.args.terms.now in
    let l = c.loop-place in
    let id = c.args.id.0 in
    let within : l.place < length c.args.known.now = omega (arith, c.loop-place-test.true, c.requires.id, c.requires.known.room) in
    elim c.match-known-place.branch [
      | in-Some+in-Some-fix_of+in_ok-push w ↦
          let f = w.in-Some-fix_of.fix in
          let now : c.match-known-place.fixes.items ≡ l.fixes.items ++ f ∷ [] = ap (λ (v : Vec Fix Global). v.items) w.fixes-is ∙ w.in_ok-push.ensures.items in
          let at : Follows g id l.place w.in-Some.holds = c.requires.known.follows l.place w.in-Some.holds within w.in-Some.is in
          let here : Follows g id f.condition.0 w.in-Some.holds = subst (λ (x : TermId). Follows g id x.0 w.in-Some.holds) (sym w.in-Some-fix_of.ensures.condition) at in
          let follows : Follows g id f.condition.0 f.holds = subst (Follows g id f.condition.0) (sym w.in-Some-fix_of.ensures.holds) here in (
            subst (AreFixes g) (sym now) (fixes_push g l.fixes.items f l.invariant.0 w.in-Some-fix_of.ensures.fix),
            subst (AllFollow g id) (sym now) (follow_push g id l.fixes.items f l.invariant.1 follows),
          )
      | in-Some+in_default-fix_of w ↦
          let now = ap (λ (v : Vec Fix Global). v.items) w.fixes-is in
          (subst (AreFixes g) (sym now) l.invariant.0, subst (AllFollow g id) (sym now) l.invariant.1)
      | in_default w ↦
          let now = ap (λ (v : Vec Fix Global). v.items) w.fixes-is in
          (subst (AreFixes g) (sym now) l.invariant.0, subst (AllFollow g id) (sym now) l.invariant.1)
    ]

pub returns-clause-fixes : goal.returns-clause-fixes
returns-clause-fixes c = c.loop-place.invariant.0

pub returns-clause-follow : goal.returns-clause-follow
returns-clause-follow c = c.loop-place.invariant.1
