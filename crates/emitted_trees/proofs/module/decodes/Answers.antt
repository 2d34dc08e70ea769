use Rattle.std.proofs.Common.{arith, refl, length, ap, ◌++◌}
use Rattle.std.proofs.lemmas.Option.{slice_get_read}
use Rattle.ila_model.specs.declared.parts.Instruction.{Instruction}
use Rattle.emitted_trees.specs.Emitted.{decodes_among}
use Rattle.emitted_names.proofs.Turns.{onward, ended}
use Rattle.emitted_trees.proofs.module.decodes.Goals as goal

pub loop-instruction-init : goal.loop-instruction-init
loop-instruction-init c = ap (λ xs. xs ++ decodes_among c.args.instructions.now) c.new-ids.ensures.items

pub loop-instruction-preserved : goal.loop-instruction-preserved
loop-instruction-preserved c =
    onward (λ (i : Instruction). i.decode) c.args.instructions.now c.loop-instruction.instruction-index c.instruction-item.result _ c.loop-instruction.ids.items _ _
    (slice_get_read c.args.instructions.now (length c.args.instructions.now) c.loop-instruction.instruction-index c.instruction-item.result refl (omega arith) c.instruction-item.is)
    c.loop-instruction.invariant refl c.in_ok-push.ensures.items

pub returns : goal.returns
returns c =
    ended (λ (i : Instruction). i.decode) c.args.instructions.now c.loop-instruction.instruction-index _ c.loop-instruction.ids.items (omega arith) c.loop-instruction.invariant
