use Rattle.std.proofs.Common.{◌≡◌, length}
use Rattle.refinement.specs.Map.{Setting}
use Rattle.refinement.specs.Run.{Run}
use Rattle.ila_model.specs.Model.{model_of}
use Rattle.v_design.specs.Seen.{parts_of}
use Rattle.v_cycle.specs.Running.{IsCycleOf, registers_in}
use Rattle.mapped_designs.specs.View.{mapped_of}
use Rattle.mapped_designs.specs.Runs.{registers_at}
use Rattle.watch_laws.specs.Positions.{IsWatchedTo}
use Rattle.run_watch.specs.View.{values_of_script}
use Rattle.run_watch.specs.Watch.{IsWatchOf}
use Rattle.run_watch.specs.Turns.{IsPosition, position_of}
use Rattle.run_watch.proofs.watching.watch.Given as goal

abbrev pub invariant-loop-k : goal.invariant-loop-k
invariant-loop-k l = record {
  made : IsCycleOf (parts_of l.mapped.design) l.cycle;
  registers : registers_in l.cycle ≡ registers_at (parts_of l.mapped.design) (values_of_script (parts_of l.mapped.design) l.registers l.inputs) l.k;
  position : IsPosition (model_of l.model) (mapped_of l.mapped) l.k l.position;
  watched : (s : Setting) (run : Run)
      → IsWatchOf (model_of l.model) (mapped_of l.mapped) (values_of_script (parts_of l.mapped.design) l.registers l.inputs) s run (length l.inputs)
      → IsWatchedTo s run l.k (position_of (model_of l.model) l.position);
}
