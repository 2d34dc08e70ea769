-- The parts of written machines, instructions and child programs, as they are seen.
use Rattle.std.proofs.Common.{◌≡◌, refl, ap, sym, ◌∙◌, None}
use Rattle.model_files.specs.Written as pure
use Rattle.ila_file.specs.View.{child_step, instruction_step, machine_step, child_view, instruction_view, machine_view, instructions_view}
use Rattle.ila_file.specs.declared.written.WrittenChild.{WrittenChild, out-WrittenChild}
use Rattle.ila_file.specs.declared.written.WrittenChild.TheFolds.{fold_out-WrittenChild, fold_out-WrittenInstruction, fold_out-WrittenMachine}
use Rattle.ila_file.specs.declared.written.WrittenInstruction.{WrittenInstruction, out-WrittenInstruction}
use Rattle.ila_file.specs.declared.written.WrittenMachine.{WrittenMachine, out-WrittenMachine}
use Rattle.ila_build.specs.Building.{own_instructions}
use Rattle.ila_build.specs.Inside.{program_in}

pub instructions_seen : (m : WrittenMachine) → instructions_view (out-WrittenMachine m).instructions.items ≡ own_instructions (machine_view m)
instructions_seen m = sym (ap own_instructions (fold_out-WrittenMachine pure.WrittenChild pure.WrittenInstruction pure.WrittenMachine child_step instruction_step machine_step m))

pub child_seen : (c : WrittenChild) → child_view c ≡ pure.child (out-WrittenChild c).steps (machine_view (out-WrittenChild c).machine)
child_seen c = fold_out-WrittenChild pure.WrittenChild pure.WrittenInstruction pure.WrittenMachine child_step instruction_step machine_step c

pub no_child_seen : (i : WrittenInstruction) → (out-WrittenInstruction i).child ≡ None → program_in (instruction_view i) ≡ pure.no_child
no_child_seen i h = ap program_in (fold_out-WrittenInstruction pure.WrittenChild pure.WrittenInstruction pure.WrittenMachine child_step instruction_step machine_step i) ∙ (rw h refl)
