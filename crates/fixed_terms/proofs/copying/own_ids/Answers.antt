use Rattle.std.proofs.Common.{◌≡◌, ◌+◌, length, refl, sym, subst, arith}
use Rattle.fixed_terms.specs.Fixed.{AreOwn}
use Rattle.fixed_terms.proofs.Likeness.{own_none, own_more}
use Rattle.fixed_terms.proofs.copying.own_ids.Goals as goal

pub loop-place-init : goal.loop-place-init
loop-place-init c = subst (AreOwn 0) (sym c.new-ids.ensures.items) own_none

pub loop-place-preserved : goal.loop-place-preserved
loop-place-preserved c =
    let l = c.loop-place in
    subst (AreOwn (l.place + 1)) (sym c.in_ok-push.ensures.items) (own_more l.ids.items l.place (record { 0 = l.place }) refl l.invariant)

pub returns : goal.returns
returns c =
    let same : c.loop-place.place ≡ length c.args.terms.now.nodes = omega (arith, c.loop-place-test.false, c.len-place-end.ensures.terms, c.loop-place.auto.place-end) in
    subst (λ n. AreOwn n c.loop-place.ids.items) same c.loop-place.invariant
