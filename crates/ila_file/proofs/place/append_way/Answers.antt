use Rattle.ila_file.proofs.Ways.{longer}
use Rattle.ila_file.proofs.place.append_way.Goals as goal

pub loop-instruction-preserved : goal.loop-instruction-preserved
loop-instruction-preserved c =
    longer c.args.instructions.now c.loop-instruction.instruction-index 0 _ _ _ _ c.loop-instruction-test.true c.loop-instruction.invariant
    c.in_ok-append_item.ensures c.in_ok-extend_from_slice.ensures.items
