use Rattle.std.proofs.Common.{arith}
use Rattle.v_places.specs.Views.{spot_of}
use Rattle.place_kinds.specs.Places.{has_nonblocking_in_combinational}
use Rattle.v_judged.proofs.Loops.{one_passes, one_fails, none_passes}
use Rattle.v_judged.proofs.blocks.any_nonblocking_in_combinational.Goals as goal

pub loop-place-preserved : goal.loop-place-preserved
loop-place-preserved c =
    one_fails spot_of c.args.places.now c.loop-place.place-index has_nonblocking_in_combinational _ c.loop-place.invariant
    c.place-item.result _ _ (omega arith) c.place-item.is c.has_nonblocking_in_combinational.ensures c.if-has_nonblocking_in_combinational.false

pub returns-then-has_nonblocking_in_combinational : goal.returns-then-has_nonblocking_in_combinational
returns-then-has_nonblocking_in_combinational c =
    one_passes spot_of c.args.places.now c.loop-place.place-index has_nonblocking_in_combinational _ c.loop-place.invariant
    c.place-item.result _ _ (omega arith) c.place-item.is c.has_nonblocking_in_combinational.ensures c.if-has_nonblocking_in_combinational.true

pub returns : goal.returns
returns c = none_passes spot_of c.args.places.now c.loop-place.place-index has_nonblocking_in_combinational _ c.loop-place.invariant c.loop-place-test.false
