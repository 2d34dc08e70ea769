use Rattle.std.proofs.Common.{arith}
use Rattle.v_clocks.specs.Views.{sets_of}
use Rattle.v_clocks.proofs.Places.{place_first, data_turn, data_found}
use Rattle.v_clocks.proofs.data.in_places.Goals as goal

pub loop-number-preserved : goal.loop-number-preserved
loop-number-preserved c = λ source i f.
    data_turn (sets_of c.args.nets.now) c.args.places.now c.loop-number.number c.index-places-number.result c.in_ok-found.found _ (omega arith) c.index-places-number.is
    (c.in_ok-found.ensures source i (place_first source c.args.places.now c.loop-number.number c.index-places-number.result (omega arith) c.index-places-number.is f))
    c.if-found.false (c.loop-number.invariant source i f)

pub returns-then-found : goal.returns-then-found
returns-then-found c = λ source i f.
    data_found (sets_of c.args.nets.now) c.args.places.now c.loop-number.number c.index-places-number.result c.in_ok-found.found _ (omega arith) c.index-places-number.is
    (c.in_ok-found.ensures source i (place_first source c.args.places.now c.loop-number.number c.index-places-number.result (omega arith) c.index-places-number.is f))
    c.if-found.true (c.loop-number.invariant source i f)
