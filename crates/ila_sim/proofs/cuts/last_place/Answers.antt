use Rattle.std.proofs.Common.{◌≡◌, ◌-◌, sym, arith, None, drop, suc, subst}
use Rattle.scripts.specs.Script.{at_last}
use Rattle.ila_sim.proofs.Last.{is_last, same_byte}
use Rattle.ila_sim.proofs.cuts.last_place.Goals as goal

pub returns-then-text-place-clause-cut : goal.returns-then-text-place-clause-cut
returns-then-text-place-clause-cut c =
    let k : suc (c.loop-place.place - 1) ≡ c.loop-place.place = omega (arith, c.loop-place-test.true) in
    is_last c.args.byte c.args.text.now (c.loop-place.place - 1) 0 (omega (arith, c.loop-place-test.true, c.loop-place.invariant.within)) (same_byte _ _ c.if-text-place.true)
    (subst (λ i. at_last c.args.byte (drop i c.args.text.now) ≡ None) (sym k) c.loop-place.invariant.none)
