use Rattle.std.proofs.Common.{arith, refl, length}
use Rattle.std.proofs.lemmas.Option.{slice_get_read}
use Rattle.emitted_names.proofs.Bounds.{roots_more, roots_done}
use Rattle.emitted_names.proofs.keeping.add_instructions.Goals as goal

pub loop-instruction-preserved : goal.loop-instruction-preserved
loop-instruction-preserved c =
    roots_more c.args.instructions.now c.loop-instruction.instruction-index c.instruction-item.result _ _ c.loop-instruction.ids.items _ _
    (slice_get_read c.args.instructions.now (length c.args.instructions.now) c.loop-instruction.instruction-index c.instruction-item.result refl (omega arith) c.instruction-item.is)
    c.deref.ensures.value c.loop-instruction.invariant c.in_ok-push.ensures.items c.in_ok-add_updates.ensures

pub returns : goal.returns
returns c = roots_done c.args.instructions.now c.loop-instruction.instruction-index _ c.loop-instruction.ids.items (omega arith) c.loop-instruction.invariant
