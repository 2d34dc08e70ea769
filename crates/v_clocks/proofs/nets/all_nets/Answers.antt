use Rattle.std.proofs.Common.{◌∙◌, ap, arith}
use Rattle.v_places.specs.Views.{spot_of}
use Rattle.v_clocks.specs.Nets.{nets_next}
use Rattle.v_clocks.specs.Views.{sets_of}
use Rattle.v_clocks.proofs.Places.{place_first, nets_turn}
use Rattle.v_clocks.proofs.nets.all_nets.Goals as goal

pub loop-place-preserved : goal.loop-place-preserved
loop-place-preserved c = λ source i f.
    nets_turn c.args.clock.now c.args.places.now c.loop-place.place-index c.place-item.result c.loop-place.nets.items _ c.in_ok-next.next _ (omega arith) c.place-item.is
    c.in_ok-push.ensures.items
    (λ q. c.in_ok-next.ensures source i (place_first source c.args.places.now c.loop-place.place-index c.place-item.result (omega arith) c.place-item.is f) q
    ∙ ap (λ ss. nets_next c.args.clock.now (sets_of ss) (spot_of c.place-item.result) q) c.deref.ensures.value)
    (c.loop-place.invariant source i f)
