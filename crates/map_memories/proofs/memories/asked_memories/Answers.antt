use Rattle.std.proofs.Common.{arith}
use Rattle.v_places.specs.Views.{spot_of}
use Rattle.map_memories.proofs.Numbers.{kept_turn, kept_end, narrow_at}
use Rattle.map_memories.proofs.memories.asked_memories.Goals as goal

pub memories_if-requires : goal.memories_if-requires
memories_if-requires c = narrow_at spot_of c.args.places.now c.loop-number.number c.index-places-number.result _ (omega arith) c.index-places-number.is c.requires

pub loop-number-preserved : goal.loop-number-preserved
loop-number-preserved c =
    kept_turn spot_of c.args.places.now c.loop-number.number c.loop-number.list.items c.push.new.self.items _ c.index-places-number.result _ (omega arith)
    c.index-places-number.is c.in_ok-push.ensures.items c.in_ok-memories.ensures c.loop-number.invariant

pub returns : goal.returns
returns c = kept_end spot_of c.args.places.now c.loop-number.number c.loop-number.list.items (omega (arith, c.loop-number-test.false)) c.loop-number.invariant
