use Rattle.std.proofs.Common.{◌≡◌, ◌++◌, drop, IsTrue}
use Rattle.std.specs.List.{list_all}
use Rattle.v_design.specs.Seen.{parts_of}
use Rattle.ila_sim.specs.Sets.{are_right}
use Rattle.v_cycle.specs.Running.{IsCycleOf, registers_in}
use Rattle.v_sim.specs.Names.{names_by}
use Rattle.v_sim.specs.Texts.{first_values, input_lines, text_from, text_by, IsSortedRun}
use Rattle.v_sim.proofs.running.simulated_text.Given as goal

abbrev pub invariant-loop-place : goal.invariant-loop-place
invariant-loop-place l = record {
  made : IsCycleOf (parts_of l.design) l.cycle;
  right : IsTrue (list_all (λ ss. are_right (names_by (parts_of l.design)).inputs ss.items) (drop l.place l.sets-items));
  told : l.text.items ++ text_from (parts_of l.design) l.place (registers_in l.cycle) (input_lines (drop l.place l.sets-items)) ≡ text_by (parts_of l.design) l.script;
  sorted : IsSortedRun (parts_of l.design) (registers_in l.cycle) (input_lines (drop l.place l.sets-items))
      → IsSortedRun (parts_of l.design) (first_values (parts_of l.design) l.script.state.items) (input_lines l.script.inputs.items);
}
