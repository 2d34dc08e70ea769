use Rattle.std.proofs.Common.{arith}
use Rattle.v_places.specs.Views.{spot_of}
use Rattle.place_kinds.specs.Places.{has_blocking_in_clocked}
use Rattle.v_judged.proofs.Loops.{one_passes, one_fails, none_passes}
use Rattle.v_judged.proofs.blocks.any_blocking_in_clocked.Goals as goal

pub loop-place-preserved : goal.loop-place-preserved
loop-place-preserved c =
    one_fails spot_of c.args.places.now c.loop-place.place-index has_blocking_in_clocked _ c.loop-place.invariant
    c.place-item.result _ _ (omega arith) c.place-item.is c.has_blocking_in_clocked.ensures c.if-has_blocking_in_clocked.false

pub returns-then-has_blocking_in_clocked : goal.returns-then-has_blocking_in_clocked
returns-then-has_blocking_in_clocked c =
    one_passes spot_of c.args.places.now c.loop-place.place-index has_blocking_in_clocked _ c.loop-place.invariant
    c.place-item.result _ _ (omega arith) c.place-item.is c.has_blocking_in_clocked.ensures c.if-has_blocking_in_clocked.true

pub returns : goal.returns
returns c = none_passes spot_of c.args.places.now c.loop-place.place-index has_blocking_in_clocked _ c.loop-place.invariant c.loop-place-test.false
