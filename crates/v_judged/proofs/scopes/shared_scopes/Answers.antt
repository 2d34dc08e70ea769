use Rattle.std.proofs.Common.{arith, ap}
use Rattle.v_places.specs.Views.{spot_of, spots_of}
use Rattle.v_judged.specs.Spots.{spots_in}
use Rattle.v_judged.proofs.Loops.{got}
use Rattle.v_judged.proofs.Sharing.{sharing_start, sharing_turn, sharing_end, many_of}
use Rattle.v_judged.proofs.scopes.shared_scopes.Goals as goal

pub loop-place-init : goal.loop-place-init
loop-place-init c = sharing_start _ _ (spots_of c.args.places.now) (ap spots_in c.new-scopes.ensures.items) c.new-numbers.ensures.items

pub loop-place-preserved : goal.loop-place-preserved
loop-place-preserved c =
    sharing_turn (spots_in c.loop-place.scopes.items) (spots_in c.add.new.scopes.items) c.loop-place.numbers.items c.push.new.self.items (spots_of c.args.places.now)
    c.loop-place.place-index c.in_ok-number.number (spot_of c.place-item.result) c.loop-place.invariant
    (got spot_of c.args.places.now c.loop-place.place-index c.place-item.result _ (omega arith) c.place-item.is) c.in_ok-number.ensures.grown c.in_ok-number.ensures.like
    c.in_ok-push.ensures.items

pub returns : goal.returns
returns c =
    sharing_end (spots_in c.loop-place.scopes.items) c.loop-place.numbers.items (spots_of c.args.places.now) c.loop-place.place-index c.loop-place.invariant
    (many_of spot_of c.args.places.now c.loop-place.place-index (omega (arith, c.loop-place-test.false)))
