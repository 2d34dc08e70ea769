-- The parts of written machines and instructions, as they are seen.
use Rattle.std.proofs.Common.{◌≡◌, ap, ◌∙◌, refl, Option, Some, None, Box}
use Rattle.std.specs.Global.{Global}
use Rattle.model_files.specs.Written as pure
use Rattle.ila_file.specs.View.{child_step, instruction_step, machine_step, instruction_view, machine_view, held_child_view, term_view, updates_view, states_view, definitions_view, fetch_view, instructions_view}
use Rattle.ila_file.specs.declared.written.WrittenChild.{WrittenChild}
use Rattle.ila_file.specs.declared.written.WrittenChild.TheFolds.{fold_out-WrittenInstruction, fold_out-WrittenMachine}
use Rattle.ila_file.specs.declared.written.WrittenInstruction.{WrittenInstruction, out-WrittenInstruction}
use Rattle.ila_file.specs.declared.written.WrittenMachine.{WrittenMachine, out-WrittenMachine}

pub instruction_is : (i : WrittenInstruction) (o : Option (Box WrittenChild Global)) → (out-WrittenInstruction i).child ≡ o
    → instruction_view i ≡ pure.instruction (out-WrittenInstruction i).name.now (term_view (out-WrittenInstruction i).decode) (updates_view (out-WrittenInstruction i).updates) (held_child_view o)
instruction_is i None h =
    fold_out-WrittenInstruction pure.WrittenChild pure.WrittenInstruction pure.WrittenMachine child_step instruction_step machine_step i
    ∙ ap (λ c. pure.instruction (out-WrittenInstruction i).name.now (term_view (out-WrittenInstruction i).decode) (updates_view (out-WrittenInstruction i).updates) c) (rw h refl)
instruction_is i (Some b) h =
    fold_out-WrittenInstruction pure.WrittenChild pure.WrittenInstruction pure.WrittenMachine child_step instruction_step machine_step i
    ∙ ap (λ c. pure.instruction (out-WrittenInstruction i).name.now (term_view (out-WrittenInstruction i).decode) (updates_view (out-WrittenInstruction i).updates) c) (rw h refl)

pub machine_is : (m : WrittenMachine)
    → machine_view m ≡ pure.machine (states_view (out-WrittenMachine m).states) (definitions_view (out-WrittenMachine m).definitions) (fetch_view (out-WrittenMachine m).fetch)
    (term_view (out-WrittenMachine m).valid) (instructions_view (out-WrittenMachine m).instructions.items)
machine_is m = fold_out-WrittenMachine pure.WrittenChild pure.WrittenInstruction pure.WrittenMachine child_step instruction_step machine_step m
